-- A walk through the ranges as they are lent, three numbers each: what holds of the ranges that are left. Assumes nothing.
use Rattle.std.proofs.Common.{◌≡◌, ℕ, ◌+◌, ◌/◌, ◌<◌, ◌≤◌, zero, suc, List, [], ◌∷◌, map, length, get_or, drop, refl, ap, sym, subst, arith}
use Rattle.std.proofs.lemmas.List.{at_drop_more, at_drop_all}
use Rattle.std.specs.Simd.{first_chunks}
use Rattle.ranges.specs.Ranges.{Range, range_from, ranges_of}

-- ---- numbers as ranges

pub ranges_chunks : (k : ℕ) (xs : List ℕ) → k ≡ length xs / 3 → map range_from (first_chunks 3 k xs) ≡ ranges_of xs
unfolding ranges_of
ranges_chunks zero [] h = refl
ranges_chunks zero (a ∷ []) h = refl
ranges_chunks zero (a ∷ b ∷ []) h = refl
ranges_chunks zero (a ∷ b ∷ c ∷ xs) h = absurd (omega (arith, h))
ranges_chunks (suc k) [] h = absurd (omega (arith, h))
ranges_chunks (suc k) (a ∷ []) h = absurd (omega (arith, h))
ranges_chunks (suc k) (a ∷ b ∷ []) h = absurd (omega (arith, h))
ranges_chunks (suc k) (a ∷ b ∷ c ∷ xs) h = ap (◌∷◌ (range_from (a ∷ b ∷ c ∷ []))) (ranges_chunks k xs (omega (arith, h)))

-- ---- the walk: P holds of the ranges from place i on

pub record Walk (P : List Range → Type 0) (ts : List (List ℕ)) (i : ℕ) : Type 0 where
  pub rest : P (map range_from (drop i ts))

pub walk_begin : {P : List Range → Type 0} {ts : List (List ℕ)} {rs : List Range} → map range_from ts ≡ rs → P rs → Walk P ts 0
walk_begin {P} e p = record { rest = subst P (sym e) p }

module _ {P : List Range → Type 0} {ts : List (List ℕ)} {i : ℕ} (w : Walk P ts i) where
  -- where one is left, it comes
  pub walk_here : i < length ts → P (range_from (get_or ts i []) ∷ map range_from (drop (i + 1) ts))
  walk_here h = subst (λ (l : List (List ℕ)). P (map range_from l)) (at_drop_more (λ l. l) ts i [] h) w.rest

  -- it is passed: Q holds of those after it
  pub walk_more : {Q : List Range → Type 0} → i < length ts → ((rs : List Range) → P (range_from (get_or ts i []) ∷ rs) → Q rs)
      → Walk Q ts (i + 1)
  walk_more h f = record { rest = f (map range_from (drop (i + 1) ts)) (walk_here h) }

  -- where none is left, none comes
  pub walk_end : length ts ≤ i → P []
  walk_end h = subst (λ (l : List (List ℕ)). P (map range_from l)) (at_drop_all (λ l. l) ts i h) w.rest
