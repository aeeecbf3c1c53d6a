-- A number that is written and read is the same, and so are its bytes that are read and written. Assumes nothing.
use Prim.Native.Nat.{ℕ, zero, suc, ◌+◌, ◌*◌, ◌/◌, ◌%◌, ◌^◌, ◌<◌, ◌≤◌}
use mathlib.Core.Path.{◌≡◌, refl, sym, ap, ◌∙◌}
use mathlib.Core.List.{List, [], ◌∷◌, ◌++◌, append_assoc}
use native.Mathlib.Nat.{zero-add, pow-succ'}
use native.Mathlib.Numerals.{add-one}
use native.Mathlib.Omega.{arith}
use lib.IntN.{ℤ}
use lib.ListN.{length, get_or}
use lib.Seq.{get_or_at}
use mir.Syntax.{w16}
use mir.Val.{SFits, to_z, of_z}
use mir.Facts.{to_z-of_z, of_z-to_z, Fits-of_z}
use Rattle.rows.specs.Rows.{part, part_more}
use Rattle.dsp_header.specs.Big.{big, big_bytes}
use Rattle.dsp_header.specs.Header.{signed_at, signed_bytes}
use Rattle.dsp_header.specs.Within.{Bytes}
use Rattle.dsp_header.proofs.Sizes.{length_big}

-- ---- a number written and read

-- a number of w bytes, whatever stands behind it
pub big_again : (w v : ℕ) (y : List ℕ) → v < 256 ^ w → big w (big_bytes w v ++ y) 0 ≡ v
unfolding big big_bytes
big_again zero v y h = omega arith
big_again (suc w) v y h =
    let h' : v < 256 * 256 ^ w = rw pow-succ' at h in
    let below : v / 256 < 256 ^ w = omega arith in
    let e = append_assoc (big_bytes w (v / 256)) (v % 256 ∷ []) y in
    let high : big w (big_bytes w (v / 256) ++ (v % 256 ∷ y)) 0 ≡ v / 256 = big_again w (v / 256) (v % 256 ∷ y) below in
    let low : get_or (big_bytes w (v / 256) ++ (v % 256 ∷ y)) (0 + w) 0 ≡ v % 256 =
    ap (λ (n : ℕ). get_or (big_bytes w (v / 256) ++ (v % 256 ∷ y)) n 0) (zero-add w)
    ∙ get_or_at (big_bytes w (v / 256)) (v % 256) y 0 w (length_big w (v / 256)) in
    (λ i. 256 * big w (e i) 0 + get_or (e i) (0 + w) 0) ∙ omega (arith, high, low)

pub signed_again : (z : ℤ) (y : List ℕ) → SFits w16 z → signed_at (signed_bytes z ++ y) 0 ≡ z
unfolding signed_at signed_bytes
signed_again z y f = ap (to_z w16) (big_again 2 (of_z w16 z) y (Fits-of_z f).fits) ∙ to_z-of_z f

-- ---- bytes read and written

pub big_below : (w : ℕ) (d : List ℕ) (o : ℕ) → Bytes d → big w d o < 256 ^ w
unfolding big
big_below zero d o b = omega arith
big_below (suc w) d o b = rw pow-succ' (omega (arith, big_below w d o b, b (o + w)))

pub bytes_again : (w : ℕ) (d : List ℕ) (o : ℕ) → Bytes d → o + w ≤ length d → big_bytes w (big w d o) ≡ part w o d
unfolding big big_bytes part
bytes_again zero d o b h = refl
bytes_again (suc w) d o b h =
    let low : get_or d (o + w) 0 < 256 = b (o + w) in
    let v = 256 * big w d o + get_or d (o + w) 0 in
    let upper : v / 256 ≡ big w d o = omega arith in
    let last : v % 256 ≡ get_or d (o + w) 0 = omega arith in
    let inside : o + w < length d = omega arith in
    (λ i. big_bytes w (upper i) ++ (last i ∷ []))
    ∙ ap (λ (r : List ℕ). r ++ (get_or d (o + w) 0 ∷ [])) (bytes_again w d o b (omega arith))
    ∙ sym (part_more w o d 0 inside)
    ∙ ap (λ (n : ℕ). part n o d) (add-one w)

pub signed_bytes_again : (d : List ℕ) (o : ℕ) → Bytes d → o + 2 ≤ length d → signed_bytes (signed_at d o) ≡ part 2 o d
unfolding signed_at signed_bytes
signed_bytes_again d o b h = ap (big_bytes 2) (of_z-to_z {w = w16} (record { fits = big_below 2 d o b })) ∙ bytes_again 2 d o b h
