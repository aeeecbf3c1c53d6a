-- How many samples a slice of bytes holds, in closed form. Assumes nothing.
use Rattle.std.specs.Prelude.{ℕ, zero, suc, ◌+◌, ◌-◌, ◌%◌, ◌/◌, ◌≤◌, min, ◌≡◌, refl, Bool, true, false, not, cond, leb, ltb, eqb}
use Rattle.std.proofs.Common.{sym, ◌∙◌, arith, leb-true, leb-false, ltb-true, ltb-false, lt-ltb, le-ltb}
use Rattle.adpcm.specs.Places.{nibble_of, nibble_mono, held_of, held_more, held_less}
use Rattle.adpcm.specs.Runs.{holds, one_more, count_from, count_of}

reaches : (len end b : ℕ) {base x : ℕ} → base ≤ b → x ≡ b - base → end ≡ base + len → (t : Bool) → leb len x ≡ t → not t ≡ ltb b end
reaches len end b h e f true l = sym (le-ltb b end (omega (arith, leb-true len _ l)))
reaches len end b h e f false l = sym (lt-ltb b end (omega (arith, leb-false len _ l)))

-- by whether m is a frame's first
past_last : (len base m : ℕ) → base ≤ nibble_of m / 2 → (z : Bool)
    → cond z (not (leb len (nibble_of m / 2 - base + 1))) (not (leb len (nibble_of m / 2 - base))) ≡ ltb (nibble_of m / 2 + cond z 1 0) (base + len)
past_last len base m h true = reaches len (base + len) (nibble_of m / 2 + 1) (omega arith) (omega arith) refl _ refl
past_last len base m h false = reaches len (base + len) (nibble_of m / 2 + 0) (omega arith) (omega arith) refl _ refl

same_by : (b m : ℕ) (t : Bool) → ltb (nibble_of m / 2 + cond (eqb (m % 14) 0) 1 0) b ≡ t → t ≡ ltb m (held_of b)
same_by b m true e = sym (lt-ltb m (held_of b) (held_more b m (ltb-true _ b e)))
same_by b m false e = sym (le-ltb m (held_of b) (held_less b m (ltb-false _ b e)))

-- bytes hold sample m if they hold more than m
holds_held : (len base m : ℕ) → base ≤ nibble_of m / 2 → holds len base m ≡ ltb m (held_of (base + len))
unfolding holds
holds_held len base m h = past_last len base m h (eqb (m % 14) 0) ∙ same_by (base + len) m _ refl

one_more_lem : (n m held : ℕ) (t : Bool) → ltb m held ≡ t → one_more t (min n (held - (m + 1))) ≡ min (suc n) (held - m)
one_more_lem n m held true e = omega (arith, ltb-true m held e)
one_more_lem n m held false e = omega (arith, ltb-false m held e)

count_from_lem : (len base n m : ℕ) → base ≤ nibble_of m / 2 → count_from len base n m ≡ min n (held_of (base + len) - m)
unfolding count_from
count_from_lem len base zero m h = omega arith
count_from_lem len base (suc n) m h =
    (λ i. one_more (holds_held len base m h i) (count_from_lem len base n (m + 1) (omega (arith, nibble_mono m (m + 1) (omega arith))) i))
    ∙ one_more_lem n m (held_of (base + len)) _ refl

pub count_held : (len start count : ℕ) → count_of len start count ≡ min count (held_of (nibble_of start / 2 + len) - start)
count_held len start count = count_from_lem len (nibble_of start / 2) count start (omega arith)
