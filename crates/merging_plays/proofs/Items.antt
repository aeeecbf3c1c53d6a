-- Two lists of items of equal shapes, from states with voice k in common: they tell the same of it, and leave it in common at each place.
-- Assumes nothing.
use mathlib.Core.Path.{◌≡◌, refl, subst}
use mathlib.Core.List.{List, [], ◌∷◌, map, nil≢cons, cons≢nil, head-eq_of_cons-eq, tail-eq_of_cons-eq}
use Prim.Native.Nat.{ℕ, zero, suc, ◌<◌}
use native.Mathlib.Omega.{arith}
use Rattle.params.specs.declared.params.Params.{Params}
use Rattle.state.specs.State.{State}
use Rattle.state_voices.specs.StateVoices.{voice_in}
use Rattle.secrecy.specs.Sessions.{update, render}
use Rattle.secrecy_items.specs.Items.{Item, single, section, item_shape, after_item, state_at_item}
use Rattle.merging_plays.specs.Own.{Own}
use Rattle.merging_plays.specs.Plays.{PlaysAlike}
use Rattle.merging_plays.proofs.Steps.{same_own}
use Rattle.merging_plays.proofs.Updates.{ToldAlike, updates_tell}
use Rattle.merging_plays.proofs.Sections.{sections_tell, renders_tell}

-- ---- an item

module _ {p : Params} {k : ℕ} (h : k < p.voices) {a b : State} (o : Own p k a b) where
  pub items_tell : (x x' : Item) → item_shape x ≡ item_shape x' → ToldAlike p k a b x x'
  items_tell (single (update expected input reply)) (single (update expected' input' reply')) e =
      let sizes : expected ≡ expected' = cc in
      let inputs : input ≡ input' = cc in
      subst (ToldAlike p k a b (single (update expected input reply))) (λ i. single (update (sizes i) (inputs i) reply'))
      (updates_tell h o expected input input (same_own h o input) reply reply' (cc))
  items_tell (single (render rs m frames)) (single (render rs' m' frames')) e =
      let ranges : rs ≡ rs' = cc in
      subst (ToldAlike p k a b (single (render rs m frames))) (λ i. single (render (ranges i) m' frames'))
      (renders_tell h o rs m m' frames frames' (cc) (cc))
  items_tell (section count rs m frames) (section count' rs' m' frames') e =
      let counts : count ≡ count' = cc in
      let ranges : rs ≡ rs' = cc in
      subst (ToldAlike p k a b (section count rs m frames)) (λ i. section (counts i) (ranges i) m' frames')
      (sections_tell h o rs m m' frames frames' (cc) (cc) count)
  items_tell (single (update expected input reply)) (single (render rs' m' frames')) e =
      let z : ◌≡◌ {A = ℕ} 0 1 = cc in
      absurd (omega arith)
  items_tell (single (render rs m frames)) (single (update expected' input' reply')) e =
      let z : ◌≡◌ {A = ℕ} 0 1 = cc in
      absurd (omega arith)
  items_tell (single c) (section count' rs' m' frames') e = let z : ◌≡◌ {A = ℕ} 0 1 = cc in absurd (omega arith)
  items_tell (section count rs m frames) (single c') e = let z : ◌≡◌ {A = ℕ} 0 1 = cc in absurd (omega arith)

-- ---- a list of them

-- an item of each, and then lists that play alike
pub first_and_rest : {p : Params} {k : ℕ} {a b : State} {x x' : Item} {xs xs' : List Item} → ToldAlike p k a b x x'
    → voice_in k a ≡ voice_in k b → PlaysAlike k (after_item a x) (after_item b x') xs xs' → PlaysAlike k a b (x ∷ xs) (x' ∷ xs')
first_and_rest {k = k} {a} {b} {x} {x'} {xs} {xs'} first same rest =
    let voice : (r : ℕ) → voice_in k (state_at_item a (x ∷ xs) r) ≡ voice_in k (state_at_item b (x' ∷ xs') r) =
    elim [ zero ↦ same | suc r ↦ rest.voice r ] in
    record { told = λ i. first.told i ∷ rest.told i; voice = voice }

pub items_play : {p : Params} {k : ℕ} → k < p.voices → {a b : State} → Own p k a b → (xs xs' : List Item)
    → map item_shape xs ≡ map item_shape xs' → PlaysAlike k a b xs xs'
items_play h o [] [] e = record { told = refl; voice = λ r. o.voice }
items_play h o [] (x' ∷ xs') e = absurd (nil≢cons e)
items_play h o (x ∷ xs) [] e = absurd (cons≢nil e)
items_play h {a = a} {b = b} o (x ∷ xs) (x' ∷ xs') e =
    let first = items_tell h o x x' (head-eq_of_cons-eq e) in
    first_and_rest first o.voice (items_play h {a = after_item a x} {b = after_item b x'} first.own xs xs' (tail-eq_of_cons-eq e))
