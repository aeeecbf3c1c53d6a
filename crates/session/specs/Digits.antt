-- Laws of digits: how many there are, and a loop that writes them from the last to the first. Assumes nothing.
use Rattle.std.specs.Prelude.{◌≡◌, refl, Bool, true, false, cond, List, [], ◌∷◌, ◌++◌, ltb, take, drop, set}
use Rattle.std.proofs.Math.Path.{ap, sym}
use Rattle.std.proofs.Common.{◌∙◌, append_assoc, length-append, drop-cons, drop-set-lt, get_or-set_same}
use Prim.Native.Nat.{ℕ, zero, suc, ◌+◌, ◌-◌, ◌/◌, ◌%◌, ◌≤◌, ◌<◌}
use native.Mathlib.Omega.{arith}
use Rattle.std.proofs.Math.ListN.{length, length-set}
use Rattle.std.proofs.lemmas.List.{take-set-le}
use Rattle.std.proofs.Math.Seq.{append_snoc}
use Rattle.rows.specs.Rows.{put, part, put_part}
use Rattle.session.specs.Text.{digit_of, digits_of, hex_of, places_of, decimal_of}

pub length_digits : (b k n : ℕ) → length (digits_of b k n) ≡ k
unfolding digits_of
length_digits b zero n = refl
length_digits b (suc k) n = rw (length-append, length_digits b k (n / b)) (omega arith)

pub length_hex : (k n : ℕ) → length (hex_of k n) ≡ k
unfolding hex_of
length_hex k n = length_digits 16 k n

cond_at_most : (t : Bool) (a b m : ℕ) → a ≤ m → b ≤ m → cond t a b ≤ m
cond_at_most true a b m h g = h
cond_at_most false a b m h g = g

pub places_small : (n : ℕ) → places_of n ≤ 5
unfolding places_of
places_small n =
    cond_at_most (ltb n 10) _ _ 5 (omega arith)
    (cond_at_most (ltb n 100) _ _ 5 (omega arith)
    (cond_at_most (ltb n 1000) _ _ 5 (omega arith) (cond_at_most (ltb n 10000) _ _ 5 (omega arith) (omega arith))))

pub length_decimal : (n : ℕ) → length (decimal_of n) ≤ 5
unfolding decimal_of
length_decimal n = omega (arith, length_digits 10 (places_of n) n, places_small n)

-- ---- the last digit stored, and the others before it

put_last : (s : List ℕ) (at : ℕ) (l : List ℕ) (x : ℕ) → at + length l < length s → put (set s (at + length l) x) at l ≡ put s at (l ++ (x ∷ []))
unfolding put
put_last s at l x h =
    let n = at + length l in
    let e : at + length (l ++ (x ∷ [])) ≡ suc n = rw length-append (omega arith) in
    let here : n < length (set s n x) = rw length-set h in
    let tail : drop n (set s n x) ≡ x ∷ drop (suc n) s =
    drop-cons (set s n x) n 0 here ∙ (λ i. get_or-set_same s n x 0 h i ∷ drop-set-lt (suc n) s n x (omega arith) i) in
    (λ i. take-set-le at s n x (omega arith) i ++ l ++ tail i)
    ∙ sym (append_snoc (take at s ++ l) x (drop (suc n) s))
    ∙ (λ i. append_assoc (take at s) l (x ∷ []) i ++ drop (sym e i) s)

-- i digits are still to write, those of `rest`
pub record Spelling (s₀ : List ℕ) (at b k v : ℕ) (s : List ℕ) (i rest : ℕ) : Type 0 where
  pub count : i ≤ k
  pub size : length s ≡ length s₀
  pub whole : put s at (digits_of b i rest) ≡ put s₀ at (digits_of b k v)

pub spell_begin : (s : List ℕ) (at b k v : ℕ) → Spelling s at b k v s k v
spell_begin s at b k v = record { count = omega arith; size = refl; whole = refl }

module _ {s₀ : List ℕ} {at b k v : ℕ} {s : List ℕ} {i rest : ℕ} (p : Spelling s₀ at b k v s i rest) where
  pub spell_more : 0 < i → at + k ≤ length s₀ → {x : ℕ} → x ≡ digit_of (rest % b) → Spelling s₀ at b k v (set s (at + (i - 1)) x) (i - 1) (rest / b)
  unfolding digits_of
  spell_more h fits {x} e =
      let j = i - 1 in
      let i_is : i ≡ suc j = omega arith in
      let long : length (digits_of b j (rest / b)) ≡ j = length_digits b j (rest / b) in
      let there : at + length (digits_of b j (rest / b)) < length s = omega (arith, p.count, p.size) in
      record {
        count = omega (arith, p.count);
        size = simp length-set p.size;
        whole = (λ m. put (set s (at + sym long m) (e m)) at (digits_of b j (rest / b)))
            ∙ put_last s at (digits_of b j (rest / b)) (digit_of (rest % b)) there
            ∙ ap (λ (m : ℕ). put s at (digits_of b m rest)) (sym i_is)
            ∙ p.whole;
      }

  pub spell_end : i ≤ 0 → at ≤ length s → s ≡ put s₀ at (digits_of b k v)
  unfolding digits_of part
  spell_end h l =
      let none : i ≡ 0 = omega arith in
      sym (put_part 0 at s (omega arith)) ∙ ap (λ (m : ℕ). put s at (digits_of b m rest)) (sym none) ∙ p.whole
