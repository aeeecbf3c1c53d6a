-- The point after three samples that are 16-bit whole numbers is exactly 2 * third - second, and after equal ones that number again.
-- Assumes nothing.
use Rattle.std.proofs.Common.{◌≡◌, ◌^◌, ◌<◌, ◌≤◌, ℤ, pos, negsuc, ◌+ℤ◌, ◌-ℤ◌, nat_abs, refl, ap, ◌∙◌, le_trans, arith, lit≤}
use lib.Signed.{mag}
use lib.IntN.{+ℤ-neg_ℤ_cancel}
use lib.Ieee.{Float, binary32, sub, mul, neg, of_int}
use lib.Ieee.Fits.{add-fits}
use Rattle.resample.specs.Defs.{two, fourth}
use Rattle.resample.proofs.Integers.{IsInt, of_int_is, int_unique, sub_int, size_add, size_sub, times_int}

-- a number that a signed width of 16 bits holds
pub size_16 : (z : ℤ) → mag z < 2 ^ 15 → nat_abs z ≤ 32768
size_16 (pos n) h = omega arith
size_16 (negsuc n) h = omega arith

-- the size of the point
pub fourth_size : (b c : ℤ) → mag b < 2 ^ 15 → mag c < 2 ^ 15 → nat_abs (c +ℤ c -ℤ b) ≤ 98304
fourth_size b c hb hc = omega (arith, size_16 b hb, size_16 c hc, size_add c c, size_sub (c +ℤ c) b)

-- the point after two integers that are small enough for all that it is made of
fourth_small : (a : Float) (b c : ℤ) → nat_abs b ≤ 2 ^ 22 → nat_abs c ≤ 2 ^ 22
    → fourth a (of_int binary32 b) (of_int binary32 c) ≡ of_int binary32 (c +ℤ c -ℤ b)
unfolding fourth sub
fourth_small a b c lb lc =
    let x = mul binary32 two (of_int binary32 c) in
    let y = of_int binary32 b in
    let w : IsInt (of_int binary32 c) c = of_int_is c (le_trans lc (lit≤ tt)) in
    let v : IsInt x (c +ℤ c) = times_int 1 two (of_int binary32 c) c (refl, refl) w (omega (arith, lc)) in
    int_unique (sub binary32 x y) (c +ℤ c -ℤ b) (add-fits binary32 x (neg y)) (omega (arith, lb, lc, size_add c c, size_sub (c +ℤ c) b))
    (sub_int x y (c +ℤ c) b v (of_int_is b (le_trans lb (lit≤ tt))) (omega (arith, lb, lc, size_add c c)))

-- The law: equal to the bit, 0 being +0.
pub fourth_exact : (a : Float) (b c : ℤ) → mag b < 2 ^ 15 → mag c < 2 ^ 15
    → fourth a (of_int binary32 b) (of_int binary32 c) ≡ of_int binary32 (c +ℤ c -ℤ b)
fourth_exact a b c hb hc = fourth_small a b c (le_trans (size_16 b hb) (lit≤ tt)) (le_trans (size_16 c hc) (lit≤ tt))

-- The point after a held tone is that tone.
pub fourth_held : (a : Float) (z : ℤ) → mag z < 2 ^ 15 → fourth a (of_int binary32 z) (of_int binary32 z) ≡ of_int binary32 z
fourth_held a z h =
    let l = le_trans (size_16 z h) (lit≤ tt) in
    fourth_small a z z l l ∙ ap (of_int binary32) (+ℤ-neg_ℤ_cancel z z)
