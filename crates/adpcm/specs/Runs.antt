-- Laws of a run of samples: how many there are depends on lengths and places alone, they fit 16 bits, and none leaves the context. Assumes nothing.
use Rattle.std.specs.Prelude.{◌≡◌, refl, Bool, true, false, not, cond, List, [], ◌∷◌, ℕ, zero, suc, ◌+◌, ◌-◌, ◌%◌, ◌/◌, ◌≤◌, leb, ltb, eqb, ℤ, pos, length, get_or, Ok, Err}
use Rattle.std.proofs.Common.{sym, ap, ◌∙◌, arith, leb-true, le-leb, SFits}
use Rattle.std.specs.Int.{w16}
use Rattle.adpcm.specs.Places.{nibble_of}
use Rattle.adpcm.specs.Step.{step_fits}
use Rattle.adpcm.specs.Decode.{Took, value_of, took_of, Run, run_on, run_from, run_of}
use Rattle.adpcm.specs.declared.context.AdpcmContext.{AdpcmContext}

-- whether len bytes, the first of which is the byte base, hold sample m, with its header where it is a frame's first
unfoldable pub holds : ℕ → ℕ → ℕ → Bool
holds len base m =
    let at = nibble_of m / 2 - base in
    cond (eqb (m % 14) 0) (not (leb len (at + 1))) (not (leb len at))

abbrev pub one_more : Bool → ℕ → ℕ
one_more true n = suc n
one_more false n = zero

-- how many of n samples from sample m on the bytes hold, up to the first that they don't
unfoldable pub count_from : ℕ → ℕ → ℕ → ℕ → ℕ
count_from len base zero m = zero
count_from len base (suc n) m = one_more (holds len base m) (count_from len base n (m + 1))

abbrev pub count_of : ℕ → ℕ → ℕ → ℕ
count_of len start count = count_from len (nibble_of start / 2) count start

-- ---- the number of samples does not depend on what the bytes are

abbrev got : Took → Bool
got (Err x) = false
got (Ok x) = true

got_value : (b : Bool) (x y : AdpcmContext) → got (cond b (Err x) (Ok y)) ≡ not b
got_value true x y = refl
got_value false x y = refl

got_header : (b : Bool) (x : AdpcmContext) (t : Took) (c : Bool) → (b ≡ true → c ≡ false) → got t ≡ c → got (cond b (Err x) t) ≡ c
got_header true x t c h e = sym (h refl)
got_header false x t c h e = e

got_cond : (b : Bool) (t u : Took) (c d : Bool) → got t ≡ c → got u ≡ d → got (cond b t u) ≡ cond b c d
got_cond true t u c d p q = p
got_cond false t u c d p q = q

got_holds : (s : List ℕ) (base : ℕ) (k : List ℤ) (m : ℕ) (x : AdpcmContext) → got (took_of s base k m x) ≡ holds (length s) base m
unfolding took_of value_of holds
got_holds s base k m x =
    let at = nibble_of m / 2 - base in
    got_cond (eqb (m % 14) 0) _ _ (not (leb (length s) (at + 1))) (not (leb (length s) at))
    (got_header (leb (length s) at) x _ _
    (λ (h : leb (length s) at ≡ true). ap not (le-leb (length s) (at + 1) (omega (arith, leb-true (length s) at h))))
    (got_value (leb (length s) (at + 1)) _ _))
    (got_value (leb (length s) at) _ _)

length_on : (t : Took) (f : AdpcmContext → Run) (n : ℕ) → ((x : AdpcmContext) → length (f x).samples ≡ n) → length (run_on t f).samples ≡ one_more (got t) n
length_on (Err x) f n h = refl
length_on (Ok x) f n h = ap suc (h x)

length_from : (s : List ℕ) (base : ℕ) (k : List ℤ) (n m : ℕ) (x : AdpcmContext) → length (run_from s base k n m x).samples ≡ count_from (length s) base n m
unfolding run_from count_from
length_from s base k zero m x = refl
length_from s base k (suc n) m x =
    length_on (took_of s base k m x) (run_from s base k n (m + 1)) (count_from (length s) base n (m + 1)) (length_from s base k n (m + 1))
    ∙ ap (λ (b : Bool). one_more b (count_from (length s) base n (m + 1))) (got_holds s base k m x)

on_le : (b : Bool) {j n : ℕ} → j ≤ n → one_more b j ≤ suc n
on_le true h = omega arith
on_le false h = omega arith

count_from_le : (len base n m : ℕ) → count_from len base n m ≤ n
unfolding count_from
count_from_le len base zero m = omega arith
count_from_le len base (suc n) m = on_le (holds len base m) (count_from_le len base n (m + 1))

pub count_le : (len start count : ℕ) → count_of len start count ≤ count
count_le len start count = count_from_le len (nibble_of start / 2) count start

-- ---- every sample fits 16 bits

abbrev Fits : List ℤ → Type 0
Fits l = (i : ℕ) → SFits w16 (get_or l i (pos 0))

none_fits : Fits []
none_fits i = record { sfits = omega arith }

cons_fits : (z : ℤ) (l : List ℤ) → SFits w16 z → Fits l → Fits (z ∷ l)
cons_fits z l p q zero = p
cons_fits z l p q (suc i) = q i

abbrev TookFits : Took → Type 0
TookFits (Err x) = SFits w16 (pos 0)
TookFits (Ok x) = SFits w16 x.history0

cond_fits : (b : Bool) (t u : Took) → TookFits t → TookFits u → TookFits (cond b t u)
cond_fits true t u p q = p
cond_fits false t u p q = q

value_fits : (s : List ℕ) (at : ℕ) (high : Bool) (k : List ℤ) (x : AdpcmContext) → TookFits (value_of s at high k x)
unfolding value_of
value_fits s at high k x = cond_fits (leb (length s) at) _ _ (none_fits 0) (step_fits _ _ _ _ _ _)

took_fits : (s : List ℕ) (base : ℕ) (k : List ℤ) (m : ℕ) (x : AdpcmContext) → TookFits (took_of s base k m x)
unfolding took_of
took_fits s base k m x =
    cond_fits (eqb (m % 14) 0) _ _
    (cond_fits (leb (length s) (nibble_of m / 2 - base)) _ _ (none_fits 0) (value_fits _ _ _ _ _))
    (value_fits _ _ _ _ _)

on_fits : (t : Took) (f : AdpcmContext → Run) → TookFits t → ((x : AdpcmContext) → Fits (f x).samples) → Fits (run_on t f).samples
on_fits (Err x) f p q = none_fits
on_fits (Ok x) f p q = cons_fits x.history0 (f x).samples p (q x)

from_fits : (s : List ℕ) (base : ℕ) (k : List ℤ) (n m : ℕ) (x : AdpcmContext) → Fits (run_from s base k n m x).samples
unfolding run_from
from_fits s base k zero m x = none_fits
from_fits s base k (suc n) m x = on_fits (took_of s base k m x) (run_from s base k n (m + 1)) (took_fits s base k m x) (from_fits s base k n (m + 1))

-- ---- what callers cite

module _ (s : List ℕ) (start count : ℕ) (k : List ℤ) (x : AdpcmContext) where
  -- the number of samples, by lengths and places alone
  pub run_count : length (run_of s start count k x).samples ≡ count_of (length s) start count
  run_count = length_from _ _ _ _ _ _

  -- and so whether the bytes ran out
  pub run_short : ltb (length (run_of s start count k x).samples) count ≡ ltb (count_of (length s) start count) count
  run_short = ap (λ (n : ℕ). ltb n count) run_count

  pub run_le : length (run_of s start count k x).samples ≤ count
  run_le = omega (arith, run_count, count_le (length s) start count)

  pub run_fits : (i : ℕ) → SFits w16 (get_or (run_of s start count k x).samples i (pos 0))
  run_fits = from_fits _ _ _ _ _ _

-- two runs over as many bytes have as many samples
pub run_alike : (s t : List ℕ) (start count : ℕ) (k l : List ℤ) (x y : AdpcmContext) → length s ≡ length t
    → length (run_of s start count k x).samples ≡ length (run_of t start count l y).samples
run_alike s t start count k l x y e =
    run_count s start count k x ∙ ap (λ (n : ℕ). count_of n start count) e ∙ sym (run_count t start count l y)

-- no samples: nothing is made, and the context stays
pub run_none : (s : List ℕ) (start : ℕ) (k : List ℤ) (x : AdpcmContext) → run_of s start 0 k x ≡ record { samples = []; context = x }
unfolding run_from
run_none s start k x = refl
