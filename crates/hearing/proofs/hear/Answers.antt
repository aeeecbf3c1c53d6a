-- `hearing::hear` meets its contract: the sound played is the one loaded, and the one kept is stored in its place. Assumes nothing.
use Prim.Native.Nat.{◌*◌}
use native.Mathlib.Omega.{arith}
use mathlib.Core.Path.{◌∙◌}
use Rattle.rows.specs.Rows.{put}
use Rattle.voice.specs.declared.sound.Sound.{Sound}
use Rattle.sound_rows.specs.SoundRow.{contexts_of, history_of}
use Rattle.plan.specs.Source.{over}
use Rattle.playing.specs.Playing.{Material, material, played_sound}
use Rattle.hearing.specs.Hearing.{heard_out}
use Rattle.hearing.proofs.hear.Goals as goal
use Rattle.hearing.proofs.hear.Goals.{Start}

-- what is played of a sound, with the rest as it is
abbrev from : Start → Sound → Material
from s sound =
    let a = s.args in
    material a.q (over a.s a.ranges.now) a.memory.now a.needed sound a.ratio a.fraction a.n

pub play-kept-requires : goal.play-kept-requires
play-kept-requires c = record { ready = c.requires.ready; needed_in_bounds = c.requires.needed_in_bounds; table_value = c.requires.table_value; n_bound = c.requires.n_bound }

pub store_sound-requires : goal.store_sound-requires
store_sound-requires c =
    let inside = c.requires.k_bound in record { at_c_in_bounds = omega (arith, inside.1); at_h_in_bounds = omega (arith, inside.2) }

pub returns : goal.returns
returns c =
    let kept = c.play-kept.ensures.value ∙ (λ i. played_sound (from (goal.at.returns c).Start (c.sound_at-before.ensures i))) in record { contexts_after = c.store_sound.ensures.contexts_after ∙ (λ i. put c.args.contexts.now (c.args.k * 3) (contexts_of (kept i))); history_after = c.store_sound.ensures.history_after ∙ (λ i. put c.args.history.now (c.args.k * 18) (history_of (kept i))); out_after = c.play-kept.ensures.out_after ∙ (λ i. heard_out (from (goal.at.returns c).Start (c.sound_at-before.ensures i))) }
