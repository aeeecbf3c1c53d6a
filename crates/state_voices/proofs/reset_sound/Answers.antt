-- `state_voices::reset_sound` meets its contract: the silent sound is put. Assumes nothing.
use Prim.Native.Nat.{◌*◌}
use mathlib.Core.Path.{◌∙◌}
use Rattle.rows.specs.Rows.{put}
use Rattle.sound_rows.specs.SoundRow.{contexts_of, history_of}
use Rattle.state_voices.proofs.reset_sound.Goals as goal

pub returns : goal.returns
returns c = record { contexts_after = c.store_sound.ensures.contexts_after ∙ (λ i. put c.args.contexts.now (c.args.k * 3) (contexts_of (c.silent.ensures i))); history_after = c.store_sound.ensures.history_after ∙ (λ i. put c.args.history.now (c.args.k * 18) (history_of (c.silent.ensures i))) }
