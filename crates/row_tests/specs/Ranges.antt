-- What `(0..n).all(..)` answers, where the closure tests a number. Assumes nothing.
use Rattle.std.specs.Prelude.{◌≡◌, refl, Bool, true, false, ℕ, ◌<◌, length}
use Rattle.std.proofs.Common.{sym, ◌∙◌, true≢false, arith}
use Rattle.std.proofs.Math.Path.{ap}
use Rattle.std.specs.Bool.{MatchBool}
use Rattle.std.specs.List.{range_with_len, AllWithin, HoldsAt}
use Rattle.std.proofs.lemmas.List.FromFn.{get_or-range_with_len, length-range_with_len}
use Rattle.row_tests.specs.Tests.{all, all_at, all_each}

module _ (p : ℕ → Bool) (n : ℕ) where
  -- by what the standard library's lemma on `all` says of the range
  pub range_all : (r : Bool)
      → MatchBool r (AllWithin (λ i. true ≡ p i) (range_with_len 0 n) 0 (length (range_with_len 0 n)))
      ((k : ℕ) × (k < length (range_with_len 0 n)) × HoldsAt (λ i. false ≡ p i) (range_with_len 0 n) k)
      → r ≡ all n p
  range_all true h =
      sym (all_each p n (λ i l.
      sym (h i 0 (omega arith) (rw length-range_with_len l) ∙ ap p (get_or-range_with_len 0 n i 0 l ∙ omega arith))))
  range_all false h = go (all n p) refl
    where
      go : (b : Bool) → all n p ≡ b → false ≡ b
      go false e = refl
      go true e =
          let l : h.0 < n = rw length-range_with_len at h.1 in
          absurd (true≢false (sym (all_at p n e h.0 l) ∙ sym (h.2 0 ∙ ap p (get_or-range_with_len 0 n h.0 0 l ∙ omega arith))))
