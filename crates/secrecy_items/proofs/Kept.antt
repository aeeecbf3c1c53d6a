-- Every item of a session finds a whole state: none is refused by 4; and each of its frames lies in [-1, 1] or is NaN. Assumes nothing.
use mathlib.Core.Path.{◌≡◌, ap, sym, subst, ◌∙◌}
use mathlib.Core.Bool.{Bool, true, false}
use mathlib.Core.List.{List, [], ◌∷◌, Memᴰ}
use Prim.Native.Nat.{ℕ, zero, suc, ◌+◌, ◌<◌}
use native.Mathlib.Omega.{arith}
use lib.Dec.{T, leb}
use lib.Ieee.{Float}
use lib.ListN.{length}
use Rattle.ranges.specs.Questions.{laid_of, near_of}
use Rattle.params.specs.declared.params.Params.{Params}
use Rattle.state.specs.State.{State}
use Rattle.sink.specs.Sink.{each}
use Rattle.sink.specs.Laws.{each_append}
use Rattle.whole.specs.Whole.{Whole, whole_is}
use Rattle.calls.specs.Calls.{open_call}
use Rattle.calls.specs.Sections.{most_renders}
use Rattle.renders.proofs.Sections.{number_by, section_number_lem, frames_fit}
use Rattle.renders.proofs.Left.{section_whole}
use Rattle.secrecy.specs.Sessions.{Call, after, Said, frames_by, frames_at}
use Rattle.secrecy.specs.Demand.{begun}
use Rattle.secrecy.specs.Kept.{call_fine, session_whole}
use Rattle.secrecy.specs.Range.{session_in_range}
use Rattle.secrecy_items.specs.Items.{Item, single, section, after_item, said_item, state_at_item, said_items, frames_at_item}
use Rattle.secrecy_items.specs.Flat.{flat, calls_of_item, place_of, frames_all}
use Rattle.secrecy_items.proofs.Flats.{flat_state, item_frames, place_frames}

-- ---- whole states

-- no number of a section of a whole state is 4
other_number : (laid near few room : Bool) → number_by true laid near few room ≡ 4 → ⊥
unfolding number_by
other_number true true true true e = omega arith
other_number true true true false e = omega arith
other_number true true false room e = omega arith
other_number true false few room e = omega arith
other_number false near few room e = omega arith

module _ (st : State) (w : Whole st) where
  item_whole : (x : Item) → Whole (after_item st x)
  item_whole (single c) = (call_fine st w c).whole
  item_whole (section count rs m frames) = section_whole st count rs m frames w

  item_other : (x : Item) → (said_item st x).number ≡ 4 → ⊥
  item_other (single c) e = (call_fine st w c).other e
  item_other (section count rs m frames) e =
      let room = frames_fit st count rs m frames in
      let is = section_number_lem st count rs m frames
      ∙ ap (λ (t : Bool). number_by t (laid_of (length m) rs) (near_of rs) (leb count most_renders) room) (whole_is st w) in
      other_number (laid_of (length m) rs) (near_of rs) (leb count most_renders) room (sym is ∙ e)

items_other : (st : State) → Whole st → (xs : List Item) (s : Said) → Memᴰ s (said_items st xs) → s.number ≡ 4 → ⊥
items_other st w (x ∷ xs) s (Memᴰ.head e) = subst (λ (y : Said). y.number ≡ 4 → ⊥) (sym e) (item_other st w x)
items_other st w (x ∷ xs) s (Memᴰ.tail i) = items_other (after_item st x) (item_whole st w x) xs s i
items_other st w [] s i = elim i [ ]

-- ---- frames in range

-- those of a list of calls, where each call's are
all_in : (st : State) (cs : List Call) → ((j : ℕ) → j < length cs → T (each (frames_at st cs j))) → T (each (frames_all st cs))
all_in st [] h = tt
all_in st (c ∷ cs) h = each_append (frames_by st c) _ (h zero (omega arith)) (all_in (after st c) cs (λ j l. h (suc j) (omega arith)))

-- ---- a session

module _ (p : Params) (a : State) (o : (open_call p a).number ≡ 0) (xs : List Item) where
  pub items_whole : (r : ℕ) → Whole (state_at_item (begun p a) xs r)
  items_whole r =
      subst Whole (flat_state (begun p a) xs r) (session_whole p a o (flat (begun p a) xs) (place_of (begun p a) xs r))

  pub items_never_four : (s : Said) → Memᴰ s (said_items (begun p a) xs) → s.number ≡ 4 → ⊥
  items_never_four = items_other (begun p a) (session_whole p a o [] zero) xs

  pub items_in_range : (r : ℕ) → T (each (frames_at_item (begun p a) xs r))
  items_in_range r =
      let st = begun p a in
      subst (λ (fs : List Float). T (each fs)) (sym (item_frames st xs r))
      (all_in (state_at_item st xs r) (calls_of_item st xs r)
      (λ j l.
      subst (λ (fs : List Float). T (each fs)) (place_frames st xs r j l) (session_in_range p a o (flat st xs) (place_of st xs r + j))))
