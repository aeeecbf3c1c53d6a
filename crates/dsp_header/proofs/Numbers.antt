-- Laws of numbers of w bytes, the highest first. Assumes nothing.
use Prim.Native.Nat.{ℕ, zero, suc, ◌+◌, ◌*◌, ◌/◌, ◌%◌, ◌^◌, ◌≤◌, ◌<◌}
use mathlib.Core.Path.{◌≡◌, refl, sym, ap, ◌∙◌}
use mathlib.Core.List.{List, [], ◌∷◌}
use native.Mathlib.Nat.{add-zero}
use native.Mathlib.Numerals.{add-one}
use native.Mathlib.Omega.{arith}
use lib.IntN.{ℤ}
use borrow.Author.Tests.{eqb-true, eqb-false, eq-eqb, ne_eqb}
use mathlib.Core.Bool.{Bool, true, false, ◌&&◌}
use lib.Dec.{eqb}
use lib.ListN.{length, take, drop, get_or, length-drop}
use lib.Seq.{take-suc, get_or-drop}
use Rattle.std.specs.List.{list_all}
use Rattle.std.proofs.lemmas.List.Folds.{list_all-append}
use mir.Syntax.{w16}
use mir.Val.{hbits, to_z, of_z}
use lib.Signed.{mag}
use Rattle.std.specs.Int.{bytes_high_first}
use Rattle.adpcm.proofs.Ints.{back}
use Rattle.dsp_header.specs.Header.{signed_at, signed_bytes}
use Rattle.dsp_header.specs.Big.{big, big_bytes}

-- one byte more
pub big_more : (w : ℕ) (d : List ℕ) (o : ℕ) → big (w + 1) d o ≡ 256 * big w d o + get_or d (o + w) 0
unfolding big
big_more w d o = rw add-one

pub big_two : (d : List ℕ) (o : ℕ) → big 2 d o ≡ 256 * get_or d o 0 + get_or d (o + 1) 0
unfolding big
big_two d o = let e : get_or d (o + 0) 0 ≡ get_or d o 0 = ap (λ (n : ℕ). get_or d n 0) (add-zero o) in omega arith

pub big_four : (d : List ℕ) (o : ℕ) → big 4 d o ≡ 16777216 * get_or d o 0 + 65536 * get_or d (o + 1) 0 + 256 * get_or d (o + 2) 0 + get_or d (o + 3) 0
unfolding big
big_four d o = let e : get_or d (o + 0) 0 ≡ get_or d o 0 = ap (λ (n : ℕ). get_or d n 0) (add-zero o) in omega arith

-- a number of two bytes read as a signed one
pub signed_is : (d : List ℕ) (o : ℕ) {v : ℕ} {z : ℤ} → mag z < 2 ^ hbits w16 → z ≡ to_z w16 v → v ≡ big 2 d o
    → to_z w16 (of_z w16 z) ≡ signed_at d o
unfolding signed_at
signed_is d o {z = z} h e f = back w16 z h ∙ e ∙ ap (to_z w16) f

-- the library's bytes of a number
pub be_two : (v : ℕ) → bytes_high_first 2 v ≡ big_bytes 2 v
unfolding big_bytes
be_two v = refl

pub be_four : (v : ℕ) → bytes_high_first 4 v ≡ big_bytes 4 v
unfolding big_bytes
be_four v =
    let two : v / 256 ^ 2 ≡ v / 256 / 256 = omega arith in
    let three : v / 256 ^ 3 ≡ v / 256 / 256 / 256 = omega arith in
    λ i. three i % 256 ∷ (two i % 256 ∷ (v / 256 % 256 ∷ (v % 256 ∷ [])))

-- the bytes of a signed number, as a call is handed it
pub bits_are : (z : ℤ) → mag z < 2 ^ hbits w16 → bytes_high_first 2 (of_z w16 (to_z w16 (of_z w16 z))) ≡ signed_bytes z
unfolding signed_bytes
bits_are z h = be_two _ ∙ ap (λ (y : ℤ). big_bytes 2 (of_z w16 y)) (back w16 z h)

-- a number is 0 just where all its bytes are
both_zero : (a x : ℕ) (s t : Bool) → eqb a 0 ≡ s → eqb x 0 ≡ t → (s && (t && true)) ≡ eqb (256 * a + x) 0
both_zero a x true true e f = sym (eq-eqb (256 * a + x) 0 (omega (arith, eqb-true a 0 e, eqb-true x 0 f)))
both_zero a x true false e f = sym (ne_eqb (256 * a + x) 0 (λ z. eqb-false x 0 f (omega arith)))
both_zero a x false t e f = sym (ne_eqb (256 * a + x) 0 (λ z. eqb-false a 0 e (omega arith)))

abbrev is_zero : ℕ → Bool
is_zero b = eqb b 0

pub zeros_are : (w : ℕ) (d : List ℕ) (o : ℕ) → o + w ≤ length d → list_all (λ b. eqb b 0) (take w (drop o d)) ≡ eqb (big w d o) 0
unfolding big
zeros_are zero d o h = refl
zeros_are (suc w) d o h =
    let inside : w < length (drop o d) = simp length-drop (omega arith) in
    ap (list_all is_zero) (take-suc (drop o d) w 0 inside)
    ∙ list_all-append is_zero (take w (drop o d)) (get_or (drop o d) w 0 ∷ [])
    ∙ (λ i. zeros_are w d o (omega arith) i && (eqb (get_or-drop o d w 0 i) 0 && true))
    ∙ both_zero (big w d o) (get_or d (o + w) 0) _ _ refl refl
