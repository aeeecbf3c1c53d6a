-- Samples in offset binary: there and back, and how far two are apart. Assumes nothing.
use Prim.Native.Nat.{zero, suc, ◌+◌, ◌-◌, ◌≤◌}
use mathlib.Core.Path.{◌≡◌, refl, sym, ◌∙◌}
use native.Mathlib.Omega.{arith}
use lib.IntN.{ℤ, pos, negsuc, sub_ℕ, ◌+ℤ◌}
use mir.Syntax.{w16}
use mir.Val.{SFits}
use Rattle.nearest.specs.Nearest.{difference_of}
use Rattle.nearest.specs.Levels.{offset_binary, apart_of}
use Rattle.nearest.proofs.Differences.{diff_same, diff_pos, diff_neg, diff_abs}

-- how far two samples are apart
pub difference_offset : (a b : ℤ) → SFits w16 a → SFits w16 b → difference_of a b ≡ apart_of (offset_binary a) (offset_binary b)
unfolding difference_of offset_binary
difference_offset (pos m) (pos zero) p q = omega (arith, p.sfits)
difference_offset (pos m) (pos (suc n)) p q = diff_abs m (suc n) ∙ omega arith
difference_offset (pos m) (negsuc n) p q = omega (arith, p.sfits, q.sfits)
difference_offset (negsuc m) (pos zero) p q = diff_abs 0 (suc m) ∙ omega (arith, p.sfits)
difference_offset (negsuc m) (pos (suc n)) p q = omega (arith, p.sfits, q.sfits)
difference_offset (negsuc m) (negsuc n) p q = diff_abs (suc n) (suc m) ∙ omega (arith, p.sfits, q.sfits)

-- a sample is its number less 32768
pub offset_is : (x : ℤ) → SFits w16 x → x +ℤ pos 32768 ≡ pos (offset_binary x)
unfolding offset_binary
offset_is (pos n) p = refl
offset_is (negsuc n) p = diff_same 32768 (suc n) (32767 - n) 0 (omega (arith, p.sfits)) ∙ sym (diff_pos (32767 - n))

pub offset_le : (x : ℤ) → SFits w16 x → offset_binary x ≤ 65535
unfolding offset_binary
offset_le (pos n) p = omega (arith, p.sfits)
offset_le (negsuc n) p = omega arith

pub offset_back : (x : ℤ) → SFits w16 x → sub_ℕ (offset_binary x) 32768 ≡ x
unfolding offset_binary
offset_back (pos n) p = diff_same (n + 32768) 32768 n 0 (omega arith) ∙ sym (diff_pos n)
offset_back (negsuc n) p = diff_same (32767 - n) 32768 0 (suc n) (omega (arith, p.sfits)) ∙ sym (diff_neg n)
