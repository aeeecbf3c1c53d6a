-- Laws of the calls in a session's input, one by one and all of them. Assumes nothing.
use Rattle.std.specs.Prelude.{◌≡◌, refl, Bool, true, Option, Some, None, List, ℕ, suc, ◌+◌, ◌-◌, ◌≤◌, ◌<◌, leb, eqb, length, drop}
use Rattle.std.proofs.Math.Path.{ap, sym}
use Rattle.std.proofs.Common.{◌∙◌, length-drop, drop-drop}
use Rattle.std.proofs.Math.Bool.{false}
use native.Mathlib.Omega.{arith}
use borrow.Author.Tests.{leb-true, le-leb, lt-leb, lt-ltb, eq-eqb, ne_eqb, eqb-true}
use Rattle.fields.specs.Fields.{field_at}
use Rattle.fields.specs.Reads.{reach}
use Rattle.session.specs.declared.input.Call.{Call}
use Rattle.session.specs.declared.input.Call.TheVariants.{Render, Update}
use Rattle.session.specs.Input.{pick, update_of, call_of, size_of}
use Rattle.session.specs.Question.{calls_whole}

-- ---- the call at the front of d: its kind k, the expected size e and the input's size n

module _ (d : List ℕ) {k : ℕ} (ek : k ≡ field_at 1 d 0) where
  pub call_render : k ≡ 1 → Some Render ≡ call_of d
  unfolding call_of
  call_render h = simp (eq-eqb _ _ (sym ek ∙ h))

  pub call_other : (k ≡ 1 → ⊥) → (k ≡ 0 → ⊥) → None ≡ call_of d
  unfolding call_of
  call_other h g = simp (ne_eqb _ _ (λ q. h (ek ∙ q)), ne_eqb _ _ (λ q. g (ek ∙ q)))

  update_is : k ≡ 0 → update_of d ≡ call_of d
  unfolding call_of
  update_is g =
      let z : field_at 1 d 0 ≡ 0 = sym ek ∙ g in
      simp z

  module _ (g : k ≡ 0) {n : ℕ} (en : n ≡ field_at 4 d 5) where
    pub call_short : length d < 9 + n → None ≡ call_of d
    unfolding update_of
    call_short h =
        let none : None ≡ update_of d = simp (lt-leb _ _ (rw en at h)) in
        none ∙ update_is g

    pub call_update : {e : ℕ} → e ≡ field_at 4 d 1 → 9 + n ≤ length d → Some (Update e n) ≡ call_of d
    unfolding update_of
    call_update ee h =
        let some : Some (Update (field_at 4 d 1) (field_at 4 d 5)) ≡ update_of d = simp (le-leb _ _ (rw en at h)) in
        (λ i. Some (Update (ee i) (en i))) ∙ some ∙ update_is g

-- a call is no longer than d
pick_inside : (t : Bool) (a b : Option Call) (m : ℕ) → (t ≡ true → size_of a ≤ m) → size_of b ≤ m → size_of (pick t a b) ≤ m
pick_inside true a b m f g = f refl
pick_inside false a b m f g = g

pub size_inside : (d : List ℕ) → size_of (call_of d) ≤ length d
unfolding call_of update_of
size_inside d =
    let byte : eqb (field_at 1 d 0) 1 ≡ true → 1 ≤ length d = λ q.
    let one : field_at 1 d 0 ≡ 1 = eqb-true (field_at 1 d 0) 1 q in
    omega (arith, reach 1 d 0 (omega arith)) in
    let room : leb (9 + field_at 4 d 5) (length d) ≡ true → 9 + field_at 4 d 5 ≤ length d = λ q. leb-true _ _ q in
    pick_inside (eqb (field_at 1 d 0) 1) (Some Render) _ (length d) byte
    (pick_inside (eqb (field_at 1 d 0) 0) _ None (length d)
    (λ _. pick_inside (leb (9 + field_at 4 d 5) (length d)) _ None (length d) room (omega arith))
    (omega arith))

-- and no call is empty
pub size_some : (c : Call) → 0 < size_of (Some c)
size_some Render = omega arith
size_some (Update expected size) = omega arith

-- ---- a walk over n calls: before each, `left` are to come from `at` on

pub record Walking (d : List ℕ) (n at left : ℕ) : Type 0 where
  pub inside : at ≤ length d
  pub same : calls_whole left (drop at d) ≡ calls_whole n d

pub walk_begin : (d : List ℕ) (n : ℕ) → Walking d n 0 n
walk_begin d n = record { inside = omega arith; same = refl }

-- s is the size of the call there
module _ {d : List ℕ} {n at left : ℕ} (w : Walking d n at left) (some : 0 < left) {s : ℕ} (e : s ≡ size_of (call_of (drop at d))) where
  next_left_lem : left ≡ suc (left - 1)
  next_left_lem = omega arith

  pub walk_inside : at + s ≤ length d
  walk_inside = omega (arith, simp length-drop at (size_inside (drop at d)), w.inside)

  pub walk_more : (s ≡ 0 → ⊥) → Walking d n (at + s) (left - 1)
  unfolding calls_whole
  walk_more h =
      let long : 0 < s = omega arith in
      let first : calls_whole (suc (left - 1)) (drop at d) ≡ calls_whole (left - 1) (drop s (drop at d)) = rw (← e, lt-ltb 0 s long) in
      record {
        inside = walk_inside;
        same = ap (calls_whole (left - 1)) (sym (drop-drop s at d)) ∙ sym first ∙ ap (λ (m : ℕ). calls_whole m (drop at d)) (sym next_left_lem) ∙ w.same;
      }

  pub walk_cut : s ≡ 0 → false ≡ calls_whole n d
  unfolding calls_whole
  walk_cut h =
      let none : calls_whole (suc (left - 1)) (drop at d) ≡ false = rw (← e, h) in
      sym none ∙ ap (λ (m : ℕ). calls_whole m (drop at d)) (sym next_left_lem) ∙ w.same

same_test : (t u : Bool) → (t ≡ true → u ≡ true) → (u ≡ true → t ≡ true) → t ≡ u
same_test true u f g = sym (f refl)
same_test false true f g = g refl
same_test false false f g = refl

pub walk_end : {d : List ℕ} {n at left : ℕ} → Walking d n at left → left ≤ 0 → eqb at (length d) ≡ calls_whole n d
unfolding calls_whole
walk_end {d} {n} {at} {left} w h =
    let none : left ≡ 0 = omega arith in
    let size : length (drop at d) ≡ length d - at = length-drop at d in
    let there : eqb at (length d) ≡ true → eqb (length (drop at d)) 0 ≡ true = λ q.
    let e : at ≡ length d = eqb-true at (length d) q in
    eq-eqb (length (drop at d)) 0 (omega arith) in
    let back : eqb (length (drop at d)) 0 ≡ true → eqb at (length d) ≡ true = λ q.
    let e : length (drop at d) ≡ 0 = eqb-true (length (drop at d)) 0 q in
    eq-eqb at (length d) (omega (arith, w.inside)) in
    same_test (eqb at (length d)) (eqb (length (drop at d)) 0) there back ∙ ap (λ (m : ℕ). calls_whole m (drop at d)) (sym none) ∙ w.same
