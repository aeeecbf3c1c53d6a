-- Laws of fields, each over the width. Assumes nothing.
use Rattle.std.specs.Prelude.{◌≡◌, refl, Bool, true, false, cond, List, ℕ, zero, suc, ◌+◌, ◌*◌, ◌^◌, ◌≤◌, ◌<◌, leb, length, get_or}
use Rattle.std.proofs.Common.{sym, add-zero, zero-add, add_assoc, suc-add, mul_assoc, mul-add, arith, leb-true, le-leb}
use Rattle.std.proofs.Math.Nat.{pow-succ'}
use Rattle.std.proofs.lemmas.Bool.{lt-leb}
use Rattle.fields.specs.Fields.{le, field_at}

-- a field is its low part and its high part
pub le_split : (a b : ℕ) (d : List ℕ) (o : ℕ) → le (a + b) d o ≡ le a d o + 256 ^ a * le b d (o + a)
unfolding le
le_split zero b d o = rw (zero-add b, add-zero o) (omega arith)
le_split (suc a) b d o =
    let e : o + 1 + a ≡ o + suc a = omega arith in
    let ih = le_split a b d (o + 1) in
    rw (suc-add, pow-succ', mul_assoc, ih, e, mul-add) (sym (add_assoc _ _ _))

pub byte_is : (d : List ℕ) (o : ℕ) → get_or d o 0 ≡ le 1 d o
unfolding le
byte_is d o = omega arith

-- a field reads its own bytes only
pub le_same : (w : ℕ) (d e : List ℕ) (o p : ℕ) → ((i : ℕ) → i < w → get_or d (o + i) 0 ≡ get_or e (p + i) 0) → le w d o ≡ le w e p
unfolding le
le_same zero d e o p h = refl
le_same (suc w) d e o p h =
    let first : get_or d o 0 ≡ get_or e p 0 = rw (add-zero o, add-zero p) at (h 0 (omega arith)) in
    let more : (i : ℕ) → i < w → get_or d (o + 1 + i) 0 ≡ get_or e (p + 1 + i) 0 = λ i l. rw (add_assoc o 1 i, add_assoc p 1 i) (h (1 + i) (omega arith)) in
    rw (first, le_same w d e (o + 1) (p + 1) more)

-- w bytes are a number below 256 ^ w
pub le_below : (w : ℕ) (d : List ℕ) (o : ℕ) → ((i : ℕ) → get_or d i 0 < 256) → le w d o < 256 ^ w
unfolding le
le_below zero d o h = omega arith
le_below (suc w) d o h = rw pow-succ' (omega (arith, h o, le_below w d (o + 1) h))

-- a field inside, and past the end
pub field_in : (w : ℕ) (d : List ℕ) (o : ℕ) → o + w ≤ length d → field_at w d o ≡ le w d o
unfolding field_at
field_in w d o h = simp (le-leb _ _ h)

pub field_out : (w : ℕ) (d : List ℕ) (o : ℕ) → length d < o + w → field_at w d o ≡ 0
unfolding field_at
field_out w d o h = simp (lt-leb _ _ h)

cond_same : (b : Bool) (x : ℕ) → cond b x x ≡ x
cond_same true x = refl
cond_same false x = refl

cond_below : (b : Bool) (x y : ℕ) → x < y → cond b x 0 < y
cond_below true x y h = h
cond_below false x y h = omega arith

pub field_below : (w : ℕ) (d : List ℕ) (o : ℕ) → ((i : ℕ) → get_or d i 0 < 256) → field_at w d o < 256 ^ w
unfolding field_at
field_below w d o h = cond_below (leb (o + w) (length d)) _ _ (le_below w d o h)

cond_reach : (b : Bool) (x : ℕ) → 0 < cond b x 0 → b ≡ true
cond_reach true x h = refl
cond_reach false x h = absurd (omega arith)

-- a field that is not 0 lies inside
pub reach : (w : ℕ) (d : List ℕ) (o : ℕ) → 0 < field_at w d o → o + w ≤ length d
unfolding field_at
reach w d o h = leb-true _ _ (cond_reach (leb (o + w) (length d)) (le w d o) h)

pub field_none : (d : List ℕ) (o : ℕ) → field_at 0 d o ≡ 0
unfolding field_at le
field_none d o = cond_same (leb (o + 0) (length d)) 0

-- two fields of the same bytes, of lists where they end alike
pub field_same : (w : ℕ) (d e : List ℕ) (o p : ℕ) → leb (o + w) (length d) ≡ leb (p + w) (length e)
    → ((i : ℕ) → i < w → get_or d (o + i) 0 ≡ get_or e (p + i) 0) → field_at w d o ≡ field_at w e p
unfolding field_at
field_same w d e o p l h = rw (l, le_same w d e o p h)
