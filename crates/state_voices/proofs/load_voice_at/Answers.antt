-- `state_voices::load_voice_at` meets its contract: the parts lent are the rows of voice k. Assumes nothing.
use Prim.Native.Nat.{◌+◌, ◌*◌}
use mathlib.Core.Path.{◌∙◌}
use Rattle.rows.specs.Lent.{part_cut}
use Rattle.voice_rows.specs.VoiceRow.{voice_of}
use Rattle.state_voices.specs.StateVoices.{voice_on}
use Rattle.state_voices.proofs.load_voice_at.Goals as goal

pub returns : goal.returns
unfolding voice_on
returns c =
    c.load_voice.ensures
    ∙ (λ i. voice_of (part_cut c.args.words.now (10 + c.args.k * 58) 58 i) (part_cut c.args.longs.now (1 + c.args.k * 14) 14 i) (part_cut c.args.floats.now (c.args.k * 4) 4 i))
