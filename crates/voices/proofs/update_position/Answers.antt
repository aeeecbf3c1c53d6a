-- `voices::update_position` meets its contract: what is stored is what the record makes of the voice that was loaded. Assumes nothing.
use Prim.Native.Nat.{◌*◌}
use mathlib.Core.Path.{ap, ◌∙◌}
use Rattle.rows.specs.Rows.{put}
use Rattle.voice_rows.specs.VoiceRow.{words_of, longs_of, floats_of}
use Rattle.voice_records.specs.Record.{recorded}
use Rattle.voices.proofs.update_position.Goals as goal

pub returns : goal.returns
returns c =
    let e = c.update_voice-v.ensures ∙ ap (recorded c.args.revision c.args.count c.args.p.now) c.voice_at-was.ensures in
    let words = c.store_voice.ensures.words_after ∙ (λ i. put c.args.words.now (c.args.k * 58) (words_of (e i))) in
    let longs = c.store_voice.ensures.longs_after ∙ (λ i. put c.args.longs.now (c.args.k * 14) (longs_of (e i))) in
    let floats = c.store_voice.ensures.floats_after ∙ (λ i. put c.args.floats.now (c.args.k * 4) (floats_of (e i))) in record { words_after = words; longs_after = longs; floats_after = floats }
