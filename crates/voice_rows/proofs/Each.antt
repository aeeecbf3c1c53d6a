-- What `(0..4).all(..)` tells where it answers true: each of the four has what the closure tests. Assumes nothing.
use Rattle.std.specs.Prelude.{◌≡◌, Bool, true, false, ℕ, ◌<◌, length}
use Rattle.std.proofs.Common.{◌∙◌, subst, arith}
use Rattle.std.specs.Bool.{MatchBool, ⊤}
use Rattle.std.specs.List.{range_with_len, AllWithin, HoldsAt}
use Rattle.std.proofs.lemmas.List.FromFn.{get_or-range_with_len}

-- by what the standard library's lemma on `all` says of the range
pub each_of_four : (P : ℕ → Type 0) (r : Bool)
    → MatchBool r (AllWithin P (range_with_len 0 4) 0 (length (range_with_len 0 4))) ((k : ℕ) × (k < length (range_with_len 0 4)) × HoldsAt (λ _. ⊤) (range_with_len 0 4) k)
    → r ≡ true → (k : ℕ) → k < 4 → P k
each_of_four P true h e k l = subst P (get_or-range_with_len 0 4 k 0 l ∙ omega arith) (h k 0 (omega arith) l)
each_of_four P false h e k l = cc
