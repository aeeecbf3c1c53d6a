-- `voices::update_sound` meets its contract: a row is put where the voice is new. Assumes nothing.
use Prim.Native.Nat.{◌*◌}
use mathlib.Core.Path.{sym, ◌∙◌}
use Rattle.voice.specs.Sound.{silent_sound}
use Rattle.sound_rows.specs.SoundRow.{contexts_of, history_of}
use Rattle.voices.specs.Voices.{put_new}
use Rattle.voices.proofs.update_sound.Goals as goal

pub returns-then-record_new : goal.returns-then-record_new
returns-then-record_new c =
    let new = sym c.if-record_new.true ∙ c.record_new.ensures in record { contexts_after = c.store_sound.ensures.contexts_after ∙ (λ i. put_new (new i) c.args.contexts.now (c.args.k * 3) (contexts_of (c.silent.ensures i))); history_after = c.store_sound.ensures.history_after ∙ (λ i. put_new (new i) c.args.history.now (c.args.k * 18) (history_of (c.silent.ensures i))) }

pub returns-else-record_new : goal.returns-else-record_new
returns-else-record_new c =
    let kept = sym c.if-record_new.false ∙ c.record_new.ensures in record { contexts_after = λ i. put_new (kept i) c.args.contexts.now (c.args.k * 3) (contexts_of silent_sound); history_after = λ i. put_new (kept i) c.args.history.now (c.args.k * 18) (history_of silent_sound) }
