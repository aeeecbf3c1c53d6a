-- An array that a pure closure fills by index. Assumes nothing.
use Rattle.std.proofs.Common.{◌≡◌, ℕ, zero, suc, ◌+◌, ◌<◌, List, [], ◌∷◌, length, drop, refl, ◌∙◌, arith, subst}
use Rattle.std.proofs.lemmas.List.{drop_more, drop_all}
use Rattle.std.specs.Array.{IsFromFnResult, IsFromFnResultFrom}
use Rattle.std.specs.Fn.{Called}
use denote.Param.Members.{Mut}

module _ {F B : Type 0} (g : Mut F (ℕ × Unit {0}) B) (f : F) (want : ℕ → B)
    (pure : (i : ℕ) (y : B) (q : F) → Called g f (i, tt) y q → (q ≡ f) × (y ≡ want i)) where
  -- n values from i on
  abbrev pub wanted : ℕ → ℕ → List B
  wanted i zero = []
  wanted i (suc n) = want i ∷ wanted (i + 1) n

  from_place : (p : F) → p ≡ f → (ys : List B) (i n : ℕ) → length ys ≡ i + n → IsFromFnResultFrom g p ys i n → drop i ys ≡ wanted i n
  from_place p e ys i zero l h = drop_all i ys (omega arith)
  from_place p e ys i (suc n) l (q, y, is, call, rest) =
      let w = pure i y q (subst (λ (z : F). Called g z (i, tt) y q) e call) in
      let lt : i < length ys = omega arith in
      let r = from_place q w.0 ys (i + 1) n (omega arith) rest in
      drop_more ys i y lt ∙ (λ k. (is.0 ∙ w.1) k ∷ r k)

  pub from_fn_gives : (ys : List B) (n : ℕ) → IsFromFnResult g f ys n → ys ≡ wanted 0 n
  from_fn_gives ys n h = from_place f refl ys 0 n (omega (arith, h.long)) h.each
