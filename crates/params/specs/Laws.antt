-- Laws of the sizes: the effects' bytes are whole rows within the expected size, and a reply's length fits 32 bits. Assumes nothing.
use Rattle.std.specs.Prelude.{◌≡◌, ℕ, zero, suc, ◌-◌, ◌*◌, ◌/◌, ◌^◌, ◌<◌, ◌≤◌, Bool, true, false, cond, ◌&&◌, nat_le, nat_lt, refl}
use Rattle.std.proofs.Common.{ap, div-mul-le_self, mul-div_cancel, mul-zero, arith, le-leb, le-ltb, lt-ltb}
use Rattle.std.proofs.lemmas.Bool.{lt-leb}
use Rattle.std.proofs.lemmas.Bool.Decides.{nat_tests}
use Rattle.params.specs.declared.params.Params.{Params}
use Rattle.params.specs.Sizes.{Allowed, revision_of, pools_of, info_bytes, fixed_of, effects_bytes, reply_length}

-- ---- the effects' bytes, by case

pub effects_none : (p : Params) (e : ℕ) → p.effects ≡ 0 → effects_bytes p e ≡ 0
unfolding effects_bytes
effects_none p e h = simp (le-ltb 0 p.effects (omega arith))

pub and_false : (b : Bool) → (b && false) ≡ false
and_false true = refl
and_false false = refl

pub effects_short : (p : Params) (e : ℕ) → e ≤ fixed_of p → effects_bytes p e ≡ 0
unfolding effects_bytes
effects_short p e h = simp (le-ltb (fixed_of p) e h, and_false)

pub effects_some : (p : Params) (e : ℕ) → 0 < p.effects → fixed_of p < e → effects_bytes p e ≡ (e - fixed_of p) / p.effects * p.effects
unfolding effects_bytes
effects_some p e h k = simp (lt-ltb 0 p.effects h, lt-ltb (fixed_of p) e k)

-- what the rest leaves, rounded down, also where it leaves nothing
pub effects_room : (p : Params) (e : ℕ) → 0 < p.effects → effects_bytes p e ≡ (e - fixed_of p) / p.effects * p.effects
unfolding effects_bytes
effects_room p e h = grind (arith, nat_tests)

-- ---- how much they are

cond_at_most : (b : Bool) (x y : ℕ) → x ≤ y → cond b x 0 ≤ y
cond_at_most true x y h = h
cond_at_most false x y h = omega arith

-- no more than the expected size leaves
pub effects_fit : (p : Params) (e : ℕ) → effects_bytes p e ≤ e - fixed_of p
unfolding effects_bytes
effects_fit p e = cond_at_most (nat_lt 0 p.effects && nat_lt (fixed_of p) e) _ _ (div-mul-le_self (e - fixed_of p) p.effects)

whole_rows : (n x : ℕ) → x * n / n * n ≡ x * n
whole_rows zero x = rw (mul-zero, mul-zero)
whole_rows (suc n) x = ap (λ (y : ℕ). y * suc n) (mul-div_cancel x {n = suc n} (omega arith))

cond_whole : (b : Bool) (n x : ℕ) → cond b (x * n) 0 / n * n ≡ cond b (x * n) 0
cond_whole true n x = whole_rows n x
cond_whole false n x = omega (arith, div-mul-le_self 0 n)

-- as many for each effect
pub effects_whole : (p : Params) (e : ℕ) → effects_bytes p e / p.effects * p.effects ≡ effects_bytes p e
unfolding effects_bytes
effects_whole p e = cond_whole (nat_lt 0 p.effects && nat_lt (fixed_of p) e) p.effects ((e - fixed_of p) / p.effects)

-- ---- the whole

pub info_some : (p : Params) → 5 ≤ revision_of p → info_bytes p ≡ 0x10
unfolding info_bytes
info_some p h = simp (le-leb 5 (revision_of p) h)

pub info_none : (p : Params) → revision_of p < 5 → info_bytes p ≡ 0
unfolding info_bytes
info_none p h = simp (lt-leb 5 (revision_of p) h)

pub info_small : (p : Params) → info_bytes p ≤ 0x10
unfolding info_bytes
info_small p = cond_at_most (nat_le 5 (revision_of p)) 0x10 0x10 (omega arith)

pub pools_small : (p : Params) → Allowed p → pools_of p ≤ 320
unfolding pools_of
pools_small p a = omega arith

pub fixed_small : (p : Params) → Allowed p → fixed_of p ≤ 6672
unfolding fixed_of
fixed_small p a = omega (arith, pools_small p a, info_small p)

pub reply_below : (p : Params) (e : ℕ) → Allowed p → e < 2 ^ 32 → reply_length p e < 2 ^ 32
unfolding reply_length
reply_below p e a h = omega (arith, fixed_small p a, effects_fit p e)
