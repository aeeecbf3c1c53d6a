-- Bytes that are there and zeros behind them are the bytes filled up. Assumes nothing.
use mathlib.Core.Path.{◌≡◌, refl, ap, sym, ◌∙◌}
use mathlib.Core.List.{List, [], ◌∷◌, ◌++◌, append-nil}
use Prim.Native.Nat.{ℕ, zero, suc, ◌-◌, min}
use native.Mathlib.Omega.{arith}
use native.Mathlib.Nat.{zero-add, sub-zero}
use lib.ListN.{length, take, drop, get_or}
use lib.Seq.{get_or-drop, take-length}
use Rattle.rows.specs.Rows.{put}
use Rattle.rows.specs.Tables.{table}
use Rattle.fields.specs.Fields.{rest_of}
use Rattle.reply_sections.specs.Bytes.{zeros}
use Rattle.merging.specs.Merge.{padded}

-- ---- the first w of a list, filled up

filled_none : (w : ℕ) → table w (λ i. get_or [] i 0) ≡ zeros w
unfolding table zeros
filled_none zero = refl
filled_none (suc w) = ap (λ (x : List ℕ). 0 ∷ x) (unfold zeros in filled_none w)

filled : (w : ℕ) (s : List ℕ) (n : ℕ) → n ≡ min w (length s) → take n s ++ zeros (w - n) ≡ table w (λ i. get_or s i 0)
unfolding table
filled zero s zero e = unfold zeros in refl
filled zero s (suc n) e = absurd (omega arith)
filled (suc w) [] zero e = ap zeros (sub-zero (suc w)) ∙ sym (filled_none (suc w))
filled (suc w) [] (suc n) e = absurd (omega arith)
filled (suc w) (x ∷ s) zero e = absurd (omega arith)
filled (suc w) (x ∷ s) (suc n) e =
    let rest : suc w - suc n ≡ w - n = omega arith in
    let few : n ≡ min w (length s) = omega arith in
    ap (λ (m : ℕ). x ∷ (take n s ++ zeros m)) rest ∙ ap (λ (r : List ℕ). x ∷ r) (filled w s n few)

-- ---- from a place on

pub padded_is : (w from : ℕ) (s : List ℕ) (n : ℕ) → n ≡ min w (length (rest_of s from))
    → take n (rest_of s from) ++ zeros (w - n) ≡ padded w from s
unfolding padded rest_of
padded_is w from s n e = filled w (drop from s) n e ∙ (λ i. table w (λ k. get_or-drop from s k 0 i))

-- nothing, filled up
pub padded_none : (w from : ℕ) → zeros w ≡ padded w from []
unfolding padded
padded_none w from = sym (filled_none w)

-- a list of just that length is as it was
pub padded_whole : (w : ℕ) (s : List ℕ) → length s ≡ w → padded w 0 s ≡ s
unfolding padded
padded_whole w s e =
    let none : w - w ≡ 0 = omega arith in
    let all : take w s ≡ s = ap (λ (n : ℕ). take n s) (sym e) ∙ take-length s in
    (λ i. table w (λ k. get_or s (zero-add k i) 0))
    ∙ sym (filled w s w (omega arith))
    ∙ (λ i. all i ++ zeros (none i))
    ∙ (unfold zeros in append-nil s)

-- the first n of a list, replaced
pub put_front : (s r : List ℕ) {n : ℕ} → length r ≡ n → r ++ drop n s ≡ put s 0 r
unfolding put
put_front s r l = ap (λ (m : ℕ). r ++ drop m s) (sym l ∙ sym (zero-add (length r)))
