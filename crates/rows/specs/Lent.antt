-- A part of a slice that is lent, and the slice once the part is back. Assumes nothing.
use Rattle.std.specs.Prelude.{◌≡◌, List, [], ◌++◌, ℕ, ◌+◌, ◌-◌, ◌≤◌, length, drop}
use Rattle.std.proofs.Math.Path.{ap}
use Rattle.std.proofs.Common.{sym, ◌∙◌, append-nil, length-drop, drop_of_length-le, take_all, drop-drop}
use native.Mathlib.Omega.{arith}
use Rattle.std.proofs.Math.ListN.{take}
use Rattle.rows.specs.Rows.{part, put, length_part, put_is}

module _ {ℓ} {A : Type ℓ} (s : List A) where
  -- ---- w elements from a on, lent as `s[a..a + w]`

  module _ (a w : ℕ) where
    -- what is lent
    abbrev pub lent : List A
    lent = take (a + w - a) (drop a s)

    -- the slice once r is back
    abbrev pub returned : List A → List A
    returned r = take a s ++ (r ++ drop (a + w - a) (drop a s))

    pub part_cut : lent ≡ part w a s
    unfolding part
    part_cut =
        let e : a + w - a ≡ w = omega arith in
        ap (λ (k : ℕ). take k (drop a s)) e

    pub length_lent : a + w ≤ length s → length lent ≡ w
    length_lent fits = ap length part_cut ∙ length_part w a s fits

    pub returned_is : {r q : List A} → a + w ≤ length s → r ≡ q → length q ≡ w → returned r ≡ put s a q
    returned_is {r} {q} fits e l =
        let k : a + (a + w - a) ≡ a + length q = omega arith in
        let rest = drop-drop (a + w - a) a s ∙ ap (λ (i : ℕ). drop i s) k in
        (λ j. take a s ++ (e j ++ rest j)) ∙ sym (put_is s a q (omega arith))

  -- ---- w elements from `from` on, lent as `s[a..b]`

  module _ (from w : ℕ) {a b : ℕ} (ea : a ≡ from) (eb : b ≡ from + w) where
    pub part_between : take (b - a) (drop a s) ≡ part w from s
    part_between = (λ j. take (eb j - ea j) (drop (ea j) s)) ∙ part_cut from w

    pub length_between : from + w ≤ length s → length (take (b - a) (drop a s)) ≡ w
    length_between fits = ap length part_between ∙ length_part w from s fits

    pub returned_between : {r q : List A} → from + w ≤ length s → r ≡ q → length q ≡ w → take a s ++ (r ++ drop (b - a) (drop a s)) ≡ put s from q
    returned_between {r} fits e l = (λ j. take (ea j) s ++ (r ++ drop (eb j - ea j) (drop (ea j) s))) ∙ returned_is from w fits e l

  -- the first w, lent as `s[..n]`
  pub part_front : (w : ℕ) {n : ℕ} → n ≡ w → take n s ≡ part w 0 s
  unfolding part
  part_front w e = ap (λ (n : ℕ). take n s) e

  -- ---- all from a on, lent as `s[a..]`

  module _ (a : ℕ) (h : a ≤ length s) where
    pub rest_lent : take (length s - a) (drop a s) ≡ drop a s
    rest_lent = take_all (length s - a) (drop a s) (omega (arith, length-drop a s))

    none : drop (length s - a) (drop a s) ≡ []
    none = drop_of_length-le (drop a s) {i = length s - a} (omega (arith, length-drop a s))

    pub rest_returned : (r : List A) → take a s ++ (r ++ drop (length s - a) (drop a s)) ≡ take a s ++ r
    rest_returned r = ap (λ (x : List A). take a s ++ x) (ap (λ (x : List A). r ++ x) none ∙ append-nil r)

    -- all of it was written, q
    pub rest_filled : {r : List A} (q : List A) → r ≡ q ++ drop (length s - a) (take (length s - a) (drop a s))
        → take a s ++ (r ++ drop (length s - a) (drop a s)) ≡ take a s ++ q
    rest_filled {r} q e =
        rest_returned r ∙ ap (λ (x : List A). take a s ++ x) (e ∙ ap (λ (x : List A). q ++ x) (ap (drop (length s - a)) rest_lent ∙ none) ∙ append-nil q)

    -- its first n were written, q
    pub front_returned : (n : ℕ) {r : List A} (q : List A) → length q ≡ n → a + n ≤ length s → r ≡ q ++ drop n (take (length s - a) (drop a s))
        → take a s ++ (r ++ drop (length s - a) (drop a s)) ≡ put s a q
    front_returned n {r} q l fits e =
        let rest = (λ j. drop n (rest_lent j)) ∙ drop-drop n a s ∙ (λ j. drop (a + sym l j) s) in
        rest_returned r ∙ ap (λ (x : List A). take a s ++ x) (e ∙ ap (λ (x : List A). q ++ x) rest) ∙ sym (put_is s a q (omega arith))
