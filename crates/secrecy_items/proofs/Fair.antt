-- Sections that are refused leave the state as it was; so their bytes may differ between two sessions, and the frames of a later section
-- are equal. A condition that asks for agreement there fails here. Assumes nothing.
use mathlib.Core.Path.{◌≡◌, refl}
use mathlib.Core.Bool.{false}
use mathlib.Core.List.{List, ◌++◌}
use Prim.Native.Nat.{ℕ, zero, suc, ◌<◌}
use native.Mathlib.Omega.{arith}
use lib.Dec.{eqb}
use Rattle.state.specs.State.{State}
use Rattle.calls.specs.Sections.{section_call}
use Rattle.secrecy.specs.Demand.{Condition}
use Rattle.secrecy.specs.Computing.{computing}
use Rattle.secrecy.specs.Inputs.{slices_for, start_for, desk, updating_all, pcm, frame, silence}
use Rattle.secrecy.proofs.Holds.{p, st, opened_on, memory, others}
use Rattle.secrecy_items.specs.Items.{Item, after_item, said_item, state_at_item, frames_at_item}
use Rattle.secrecy_items.specs.Flat.{flat}
use Rattle.secrecy_items.specs.Demand.{ItemCondition}
use Rattle.secrecy_items.proofs.Refusals.{sectioning, sounds, items}
use Rattle.secrecy_items.proofs.Joins.{item_refused}
use Rattle.secrecy_items.proofs.Secrecy.{demand3_items}

-- one render too many, a float too few: the state stays
abbrev pub before : State
before = state_at_item st (items sounds) 2

not_zero : (eqb (said_item before (sectioning 1025 sounds 8)).number 0 ≡ false)
    × (eqb (said_item before (sectioning 2 sounds 7)).number 0 ≡ false)
unfolding computing section_call start_for desk updating_all pcm
not_zero = (refl, refl)

pub state_stays : (after_item before (sectioning 1025 sounds 8) ≡ before) × (after_item before (sectioning 2 sounds 7) ≡ before)
state_stays = (item_refused before (sectioning 1025 sounds 8) not_zero.0, item_refused before (sectioning 2 sounds 7) not_zero.1)

-- ---- two sessions, whose sections that are refused have other bytes where both voices play

abbrev pub one : List Item
one = items sounds

abbrev pub other : List Item
other = items (memory others others 0)

renders_fair : (r : ℕ) → r < 4 → Condition p st (flat st one) (flat st other) r
unfolding computing section_call start_for desk updating_all pcm
renders_fair r below zero l k inside t s = tt
renders_fair r below (suc zero) l k inside t s = tt
renders_fair r below (suc (suc zero)) l k inside t s = λ q i x lo hi w. refl
renders_fair r below (suc (suc (suc zero))) l k inside t s = λ q i x lo hi w. refl
renders_fair r below (suc (suc (suc (suc j)))) l k inside t s = absurd (omega arith)

-- the condition of the last section holds
pub last_fair : ItemCondition p st st one other 5
unfolding computing section_call start_for desk updating_all pcm
last_fair zero l = renders_fair 2 (omega arith)
last_fair (suc zero) l = renders_fair 3 (omega arith)
last_fair (suc (suc j)) l = let many : suc (suc j) < 2 = l in absurd (omega arith)

-- so its frames are equal, and they are not silent
pub last_frames : frames_at_item st one 5 ≡ frames_at_item st other 5
unfolding start_for pcm
last_frames = (demand3_items p (slices_for 2) (slices_for 2) opened_on opened_on one other refl).frames 5 last_fair

pub one_frames : frames_at_item st one 5 ≡ silence ++ (silence ++ (frame 3 ++ frame 7))
unfolding computing section_call start_for desk updating_all pcm
one_frames = refl
