-- `voices::voice_at` meets its contract: the parts lent are the rows of voice k. Assumes nothing.
use Prim.Native.Nat.{◌*◌}
use mathlib.Core.Path.{◌∙◌}
use Rattle.rows.specs.Lent.{part_cut}
use Rattle.voice_rows.specs.VoiceRow.{voice_of}
use Rattle.voices.specs.Voices.{voice_at}
use Rattle.voices.proofs.voice_at.Goals as goal

pub returns : goal.returns
unfolding voice_at
returns c =
    c.load_voice.ensures
    ∙ (λ i. voice_of (part_cut c.args.words.now (c.args.k * 58) 58 i) (part_cut c.args.longs.now (c.args.k * 14) 14 i) (part_cut c.args.floats.now (c.args.k * 4) 4 i))
