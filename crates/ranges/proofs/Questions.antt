-- Questions 13 and 5: what follows of a "yes" to both, and their answers for one range that is the whole slice. Assumes nothing.
use Rattle.std.proofs.Common.{◌≡◌, ℕ, ◌+◌, ◌/◌, ◌^◌, true, leb, List, [], ◌∷◌, length, refl, arith, le-leb, leb-true}
use mathlib.Core.Bool.{and-true, and-eq-true_iff}
use Rattle.ranges.specs.Ranges.{Range, range, ranges_of, end_of}
use Rattle.ranges.specs.Ascending.{Ascending, none, more}
use Rattle.ranges.specs.Questions.{follows, follow, laid_of, near_of}

-- ---- both answered "yes"

follow_ascending : (n base size : ℕ) (rs : List Range) → follow n base size rs ≡ true → near_of rs ≡ true → Ascending n (base + size) rs
unfolding follow follows near_of
follow_ascending n base size [] f q = none
follow_ascending n base size (r ∷ rs) f q =
    let each = (and-eq-true_iff (follows n base size r) (follow n r.base r.size rs)).0 f in
    let first = (and-eq-true_iff (leb (base + size) r.base) (leb (r.start + r.size) n)).0 each.0 in
    let ends = (and-eq-true_iff (leb (end_of r) (2 ^ 63)) (near_of rs)).0 q in
    more (leb-true (base + size) r.base first.0) (leb-true (r.start + r.size) n first.1) (leb-true (end_of r) (2 ^ 63) ends.0)
    (follow_ascending n r.base r.size rs each.1 ends.1)

pub laid_facts : (n : ℕ) (rs : List Range) → laid_of n rs ≡ true → near_of rs ≡ true → Ascending n 0 rs
unfolding laid_of
laid_facts n rs h q = follow_ascending n 0 0 rs ((and-eq-true_iff (leb (length rs) 16) (follow n 0 0 rs)).0 h).1 q

-- ---- one range that is the whole slice: 13 is answered "yes", and 5 is the question of that range

pub one_laid : (base n : ℕ) → laid_of n (range base 0 n ∷ []) ≡ true
unfolding laid_of follow follows
one_laid base n = simp (le-leb 0 base (omega arith), le-leb (0 + n) n (omega arith))

pub one_near : (base n : ℕ) → near_of (range base 0 n ∷ []) ≡ leb (base + n) (2 ^ 63)
unfolding near_of
one_near base n = and-true (leb (base + n) (2 ^ 63))

-- ---- how many there are: one for each three numbers

pub ranges_count : (xs : List ℕ) → length (ranges_of xs) ≡ length xs / 3
unfolding ranges_of
ranges_count [] = refl
ranges_count (a ∷ []) = refl
ranges_count (a ∷ b ∷ []) = refl
ranges_count (a ∷ b ∷ c ∷ xs) = omega (arith, ranges_count xs)
