-- Fields of a row that are at most their limits, and rows of which each is so. Assumes nothing.
use Rattle.std.specs.Prelude.{◌≡◌, refl, Bool, true, false, ◌&&◌, List, [], ◌∷◌, ℕ, zero, suc, ◌+◌, ◌*◌, ◌≤◌, ◌<◌, leb, ltb, drop, get_or}
use Rattle.std.proofs.Common.{sym, ◌∙◌, add-one, arith, leb-true, le-leb, ltb-true}
use Rattle.std.proofs.lemmas.Bool.{lt-leb}
use Rattle.std.proofs.Math.ListN.{length}
use Rattle.std.proofs.Math.Seq.{drop-cons, drop-length}
use Rattle.row_tests.specs.Tests.{all, all_at, all_each, both_left, both_right}

-- of the row at a place of s, each of these fields is at most its limit
unfoldable pub within : List ℕ → ℕ → List ℕ → List ℕ → Bool
within s at (f ∷ fields) (m ∷ limits) = leb (get_or s (at + f) 0) m && within s at fields limits
within s at (f ∷ fields) [] = true
within s at [] limits = true

-- the same of n rows, w wide, from `base` on
unfoldable pub rows_within : List ℕ → ℕ → ℕ → ℕ → List ℕ → List ℕ → Bool
rows_within s base n w fields limits = all n (λ i. within s (base + i * w) fields limits)

-- a limit for each field, and each field in a row w wide
pub record Table (w : ℕ) (fields limits : List ℕ) : Type 0 where
  pub paired : length fields ≡ length limits
  pub inside : (k : ℕ) → k < length fields → get_or fields k 0 < w

-- ---- laws

pub table : (w : ℕ) (fields limits : List ℕ) → length fields ≡ length limits → all (length fields) (λ k. ltb (get_or fields k 0) w) ≡ true → Table w fields limits
table w fields limits e h = record { paired = e; inside = λ k l. ltb-true _ _ (all_at (λ k. ltb (get_or fields k 0) w) (length fields) h k l) }

-- the first word of a row
pub first_table : (w m : ℕ) → 0 < w → Table w (0 ∷ []) (m ∷ [])
unfolding all
first_table w m h = record { paired = refl; inside = λ k l. let e : k ≡ 0 = omega arith in rw e h }

-- field k, by its number in the table
pub within_at : (s : List ℕ) (at : ℕ) (fields limits : List ℕ) → within s at fields limits ≡ true
    → (k : ℕ) → k < length fields → k < length limits → get_or s (at + get_or fields k 0) 0 ≤ get_or limits k 0
unfolding within
within_at s at (f ∷ fs) (m ∷ ms) h zero a b = leb-true _ _ (both_left (leb (get_or s (at + f) 0) m) (within s at fs ms) h)
within_at s at (f ∷ fs) (m ∷ ms) h (suc k) a b = within_at s at fs ms (both_right (leb (get_or s (at + f) 0) m) (within s at fs ms) h) k (omega arith) (omega arith)
within_at s at (f ∷ fs) [] h k a b = absurd (omega arith)
within_at s at [] ms h k a b = absurd (omega arith)

module _ (s : List ℕ) (base n w : ℕ) (fields limits : List ℕ) where
  pub rows_at : rows_within s base n w fields limits ≡ true → (i : ℕ) → i < n → within s (base + i * w) fields limits ≡ true
  unfolding rows_within
  rows_at h = all_at (λ i. within s (base + i * w) fields limits) n h

  pub rows_each : ((i : ℕ) → i < n → within s (base + i * w) fields limits ≡ true) → rows_within s base n w fields limits ≡ true
  unfolding rows_within
  rows_each h = all_each (λ i. within s (base + i * w) fields limits) n h

-- ---- a loop over the fields: what is left decides

pub record Testing (s : List ℕ) (at : ℕ) (fields limits : List ℕ) (k : ℕ) : Type 0 where
  pub count : k ≤ length fields
  pub rest : within s at (drop k fields) (drop k limits) ≡ within s at fields limits

pub testing : (s : List ℕ) (at : ℕ) (fields limits : List ℕ) → Testing s at fields limits 0
testing s at fields limits = record { count = omega arith; rest = refl }

module _ {s : List ℕ} {at : ℕ} {fields limits : List ℕ} {k : ℕ} (t : Testing s at fields limits k) where
  next : k < length fields → k < length limits
      → within s at (drop k fields) (drop k limits)
      ≡ leb (get_or s (at + get_or fields k 0) 0) (get_or limits k 0) && within s at (drop (suc k) fields) (drop (suc k) limits)
  unfolding within
  next a b = rw (drop-cons fields k 0, drop-cons limits k 0)

  pub test_more : k < length fields → length fields ≡ length limits → get_or s (at + get_or fields k 0) 0 ≤ get_or limits k 0 → Testing s at fields limits (k + 1)
  test_more a e h =
      let b : k < length limits = omega arith in
      let q : leb (get_or s (at + get_or fields k 0) 0) (get_or limits k 0) ≡ true = le-leb _ _ h in
      record { count = omega arith; rest = rw add-one (sym (rw q at (next a b)) ∙ t.rest) }

  pub test_cut : k < length fields → length fields ≡ length limits → get_or limits k 0 < get_or s (at + get_or fields k 0) 0 → false ≡ within s at fields limits
  test_cut a e h =
      let b : k < length limits = omega arith in
      let q : leb (get_or s (at + get_or fields k 0) 0) (get_or limits k 0) ≡ false = lt-leb _ _ h in
      sym (rw q at (next a b)) ∙ t.rest

  pub test_end : length fields ≤ k → true ≡ within s at fields limits
  unfolding within
  test_end h =
      let e : k ≡ length fields = omega (arith, t.count) in
      rw (e, drop-length) at t.rest
