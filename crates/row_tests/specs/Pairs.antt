-- A table of pairs, each a field's place in the row and its limit, as the two lists that the tests take. Assumes nothing.
use Rattle.std.specs.Prelude.{◌≡◌, List, ℕ, ◌+◌, ◌≤◌, ◌<◌, map, false, true, length, get_or}
use Rattle.std.proofs.Common.{arith, sym, ◌∙◌}
use Rattle.std.proofs.Math.ListN.{get_or-map, length-map}
use Rattle.row_tests.specs.Limits.{Table, within, Testing, test_more, test_cut, test_end}

abbrev pub fields_of : List (ℕ × ℕ) → List ℕ
fields_of = map (λ p. p.0)

abbrev pub limits_of : List (ℕ × ℕ) → List ℕ
limits_of = map (λ p. p.1)

-- pair k
abbrev pub field_at : List (ℕ × ℕ) → ℕ → ℕ
field_at t k = (get_or t k (0, 0)).0

abbrev pub limit_at : List (ℕ × ℕ) → ℕ → ℕ
limit_at t k = (get_or t k (0, 0)).1

module _ (t : List (ℕ × ℕ)) where
  pub length_fields : length (fields_of t) ≡ length t
  length_fields = length-map t (λ p. p.0)

  pub length_limits : length (limits_of t) ≡ length t
  length_limits = length-map t (λ p. p.1)

  pub field_is : (k : ℕ) → get_or (fields_of t) k 0 ≡ field_at t k
  field_is k = get_or-map (λ p. p.0) t k (0, 0)

  pub limit_is : (k : ℕ) → get_or (limits_of t) k 0 ≡ limit_at t k
  limit_is k = get_or-map (λ p. p.1) t k (0, 0)

  pub pair_inside : {w : ℕ} → Table w (fields_of t) (limits_of t) → (k : ℕ) → k < length t → field_at t k < w
  pair_inside h k l = omega (arith, h.inside k (omega (arith, length_fields)), field_is k)

  paired : length (fields_of t) ≡ length (limits_of t)
  paired = length_fields ∙ sym length_limits

  -- ---- a loop over the pairs

  module _ {s : List ℕ} {at k : ℕ} (h : Testing s at (fields_of t) (limits_of t) k) where
    pub pair_more : k < length t → get_or s (at + field_at t k) 0 ≤ limit_at t k → Testing s at (fields_of t) (limits_of t) (k + 1)
    pair_more l b = test_more h (omega (arith, length_fields)) paired (rw (field_is, limit_is) b)

    pub pair_cut : k < length t → limit_at t k < get_or s (at + field_at t k) 0 → false ≡ within s at (fields_of t) (limits_of t)
    pair_cut l b = test_cut h (omega (arith, length_fields)) paired (rw (field_is, limit_is) b)

    pub pair_end : length t ≤ k → true ≡ within s at (fields_of t) (limits_of t)
    pair_end l = test_end h (omega (arith, length_fields))
