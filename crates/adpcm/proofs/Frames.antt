-- A whole frame within a run: its 14 samples are those of its 8 bytes alone. Assumes nothing.
use mathlib.Core.Path.{◌≡◌, refl, sym, ap, ◌∙◌}
use mathlib.Core.Bool.{Bool, true, false, cond}
use mathlib.Core.List.{List, ◌++◌}
use Prim.Native.Nat.{ℕ, zero, suc, ◌+◌, ◌-◌, ◌*◌, ◌%◌, ◌/◌, ◌≤◌, ◌<◌}
use native.Mathlib.Nat.{add-zero, zero-add, suc-add, add_assoc}
use native.Mathlib.Omega.{arith}
use borrow.Author.Tests.{eq-eqb, ne_eqb, lt-leb}
use lib.Dec.{leb, eqb}
use lib.IntN.{ℤ}
use lib.ListN.{length, take, drop, get_or, length-drop}
use lib.Seq.{length-take-le, get_or-take, get_or-drop}
use Rattle.adpcm.specs.Places.{nibble_of, nibble_at_lem, nibble_parity}
use Rattle.adpcm.specs.Decode.{Took, half_of, after, headed, value_of, took_of, Run, run_on, run_from, run_of}
use Rattle.adpcm.specs.declared.context.AdpcmContext.{AdpcmContext}
use Rattle.std.specs.Prelude.{Ok, Err}

yes : (b : Bool) (t u : Took) → b ≡ true → cond b t u ≡ t
yes b t u h = ap (λ (c : Bool). cond c t u) h

no : (b : Bool) (t u : Took) → b ≡ false → cond b t u ≡ u
no b t u h = ap (λ (c : Bool). cond c t u) h

-- ---- sample j of a frame that begins at sample m

within : (m j : ℕ) → m % 14 ≡ 0 → j < 14 → ((m + j) % 14 ≡ j) × ((m + j) / 14 ≡ m / 14)
within m j h l = (omega arith, omega arith)

nibble_high : (m j : ℕ) → m % 14 ≡ 0 → nibble_of (m + j) % 2 ≡ nibble_of j % 2
nibble_high m j h = nibble_parity (m + j) ∙ even m j h ∙ sym (nibble_parity j)
  where
    even : (m j : ℕ) → m % 14 ≡ 0 → (m + j) % 2 ≡ j % 2
    even m j h = omega arith

nibble_later : (n : ℕ) → 0 < n % 14 → nibble_of n / 2 ≡ 8 * (n / 14) + (n % 14 + 2) / 2
nibble_later n h = let a : nibble_of n ≡ 16 * (n / 14) + n % 14 + 2 = (nibble_at_lem n).later h in omega arith

nibble_first : (m : ℕ) → m % 14 ≡ 0 → nibble_of m / 2 ≡ 8 * (m / 14)
nibble_first m h = let a : nibble_of m ≡ 16 * (m / 14) = (nibble_at_lem m).first h in omega arith

-- and the frame's own sample j
byte_own : (j : ℕ) → 0 < j → j < 14 → nibble_of j / 2 ≡ (j + 2) / 2
byte_own j h l =
    let z : (j % 14 ≡ j) × (j / 14 ≡ 0) = (omega arith, omega arith) in
    nibble_later j (omega (arith, z.0)) ∙ (λ i. 8 * z.1 i + (z.0 i + 2) / 2) ∙ omega arith

byte_at : (m j : ℕ) → m % 14 ≡ 0 → 0 < j → j < 14 → nibble_of (m + j) / 2 ≡ nibble_of m / 2 + (j + 2) / 2
byte_at m j h p l =
    let z = within m j h l in
    nibble_later (m + j) (omega (arith, z.0)) ∙ (λ i. 8 * z.1 i + (z.0 i + 2) / 2) ∙ ap (λ (a : ℕ). a + (j + 2) / 2) (sym (nibble_first m h))

-- ---- the samples of a frame by itself
module _ (k : List ℤ) (f : List ℕ) (long : length f ≡ 8) where
  pub took_first : (y : AdpcmContext) → took_of f 0 k 0 y ≡ Ok (after (get_or f 1 0 / 16) k (headed (get_or f 0 0) y))
  unfolding took_of value_of nibble_of
  took_first y =
      no (leb (length f) 0) (Err y) _ (lt-leb (length f) 0 (omega arith))
      ∙ no (leb (length f) 1) _ _ (lt-leb (length f) 1 (omega arith))

  took_later : (j : ℕ) (y : AdpcmContext) (high : Bool) → 0 < j → j < 14 → eqb (j % 2) 0 ≡ high → took_of f 0 k j y ≡ Ok (after (half_of high (get_or f ((j + 2) / 2) 0)) k y)
  unfolding took_of value_of
  took_later j y high p h e =
      let own : nibble_of j / 2 - 0 ≡ (j + 2) / 2 = omega (arith, byte_own j p h) in
      no (eqb (j % 14) 0) _ _ (ne_eqb (j % 14) 0 (λ z. omega arith))
      ∙ (λ i. value_of f (own i) ((ap (λ (q : ℕ). eqb q 0) (nibble_parity j) ∙ e) i) k y)
      ∙ no (leb (length f) ((j + 2) / 2)) _ _ (lt-leb (length f) ((j + 2) / 2) (omega arith))

  pub took_even : (j : ℕ) (y : AdpcmContext) → 0 < j → j < 14 → j % 2 ≡ 0 → took_of f 0 k j y ≡ Ok (after (get_or f ((j + 2) / 2) 0 / 16) k y)
  took_even j y p h e = took_later j y true p h (eq-eqb (j % 2) 0 e)

  pub took_odd : (j : ℕ) (y : AdpcmContext) → j < 14 → j % 2 ≡ 1 → took_of f 0 k j y ≡ Ok (after (get_or f ((j + 2) / 2) 0 % 16) k y)
  took_odd j y h e = took_later j y false (omega arith) h (ne_eqb (j % 2) 0 (λ z. omega arith))

-- one run and then another
abbrev pub joined : Run → Run → Run
joined p q = record { samples = p.samples ++ q.samples; context = q.context }

module _ (s : List ℕ) (base : ℕ) (k : List ℤ) where
  abbrev run : ℕ → ℕ → AdpcmContext → Run
  run n m x = run_from s base k n m x

  split_on : (t : Took) (a b m : ℕ)
      → ((y : AdpcmContext) → length (run a (m + 1) y).samples ≡ a → run (a + b) (m + 1) y ≡ joined (run a (m + 1) y) (run b (m + 1 + a) (run a (m + 1) y).context))
      → length (run_on t (run a (m + 1))).samples ≡ suc a
      → run_on t (run (a + b) (m + 1)) ≡ joined (run_on t (run a (m + 1))) (run b (m + suc a) (run_on t (run a (m + 1))).context)
  split_on (Err y) a b m f h = absurd (omega arith)
  split_on (Ok y) a b m f h =
      let e : m + 1 + a ≡ m + suc a = omega arith in
      ap (λ (r : Run). run_on (Ok y) (λ z. r)) (f y (omega arith))
      ∙ ap (λ (j : ℕ). joined (run_on (Ok y) (run a (m + 1))) (run b j (run a (m + 1) y).context)) e

  -- a run whose first part the bytes hold
  pub split : (a b m : ℕ) (x : AdpcmContext) → length (run a m x).samples ≡ a → run (a + b) m x ≡ joined (run a m x) (run b (m + a) (run a m x).context)
  unfolding run_from
  split zero b m x h = ap (λ (n : ℕ). run n m x) (zero-add b) ∙ ap (λ (j : ℕ). run b j x) (sym (add-zero m))
  split (suc a) b m x h = ap (λ (n : ℕ). run n m x) (suc-add a b) ∙ split_on (took_of s base k m x) a b m (split a b (m + 1)) h

  -- ---- the places of a frame
  module _ (m at : ℕ) (first : m % 14 ≡ 0) (from : base ≤ nibble_of m / 2) (place : at ≡ nibble_of m / 2 - base) (inside : at + 8 ≤ length s) where
    abbrev frame : List ℕ
    frame = take 8 (drop at s)

    long : length frame ≡ 8
    long = length-take-le 8 (drop at s) (omega (arith, length-drop at s))

    byte : (q : ℕ) → q < 8 → get_or s (at + q) 0 ≡ get_or frame q 0
    byte q h = sym (get_or-take 8 (drop at s) q 0 h ∙ get_or-drop at s q 0)

    held : (q : ℕ) → q < 8 → leb (length s) (at + q) ≡ leb (length frame) q
    held q h = lt-leb (length s) (at + q) (omega arith) ∙ sym (lt-leb (length frame) q (omega (arith, long)))

    value_same : (high : Bool) (y : AdpcmContext) (p q : ℕ) → q < 8 → p ≡ at + q → value_of s p high k y ≡ value_of frame q high k y
    unfolding value_of
    value_same high y p q h e =
        ap (λ (j : ℕ). value_of s j high k y) e
        ∙ (λ i. cond (held q h i) (Err y) (Ok (after (half_of high (byte q h i)) k y)))

    took_first_same : (y : AdpcmContext) → took_of s base k (m + 0) y ≡ took_of frame 0 k 0 y
    unfolding took_of nibble_of
    took_first_same y =
        let e : nibble_of (m + 0) / 2 - base ≡ at + 0 = ap (λ (j : ℕ). nibble_of j / 2 - base) (add-zero m) ∙ sym place ∙ sym (add-zero at) in
        yes (eqb ((m + 0) % 14) 0) _ _ (eq-eqb ((m + 0) % 14) 0 (omega arith))
        ∙ ap (λ (p : ℕ). cond (leb (length s) p) (Err y) (value_of s (p + 1) true k (headed (get_or s p 0) y))) e
        ∙ (λ i. cond (held 0 (omega arith) i) (Err y) (value_same true (headed (byte 0 (omega arith) i) y) (at + 0 + 1) 1 (omega arith) (omega arith) i))

    took_later_same : (j : ℕ) (y : AdpcmContext) → 0 < j → j < 14 → took_of s base k (m + j) y ≡ took_of frame 0 k j y
    unfolding took_of
    took_later_same j y p h =
        let own : nibble_of j / 2 - 0 ≡ (j + 2) / 2 = omega (arith, byte_own j p h) in
        no (eqb ((m + j) % 14) 0) _ _ (ne_eqb ((m + j) % 14) 0 (λ z. omega (arith, (within m j first h).0)))
        ∙ ap (λ (q : ℕ). value_of s (nibble_of (m + j) / 2 - base) (eqb q 0) k y) (nibble_high m j first)
        ∙ value_same (eqb (nibble_of j % 2) 0) y (nibble_of (m + j) / 2 - base) ((j + 2) / 2) (omega arith) (omega (arith, byte_at m j first p h))
        ∙ sym (no (eqb (j % 14) 0) _ _ (ne_eqb (j % 14) 0 (λ z. omega arith)) ∙ ap (λ (q : ℕ). value_of frame q (eqb (nibble_of j % 2) 0) k y) own)

    took_same : (j : ℕ) (y : AdpcmContext) → j < 14 → took_of s base k (m + j) y ≡ took_of frame 0 k j y
    took_same zero y h = took_first_same y
    took_same (suc j) y h = took_later_same (suc j) y (omega arith) h

    run_same : (n j : ℕ) (y : AdpcmContext) → j + n ≤ 14 → run n (m + j) y ≡ run_from frame 0 k n j y
    unfolding run_from
    run_same zero j y h = refl
    run_same (suc n) j y h =
        λ i. run_on (took_same j y (omega arith) i) (λ (z : AdpcmContext). (ap (λ (p : ℕ). run n p z) (add_assoc m j 1) ∙ run_same n (j + 1) z (omega arith)) i)

    pub run_frame : (x : AdpcmContext) → run 14 m x ≡ run_of (take (at + 8 - at) (drop at s)) 0 14 k x
    unfolding nibble_of
    run_frame x =
        let e : at + 8 - at ≡ 8 = omega arith in
        ap (λ (j : ℕ). run 14 j x) (sym (add-zero m))
        ∙ run_same 14 0 x (omega arith)
        ∙ ap (λ (w : ℕ). run_of (take w (drop at s)) 0 14 k x) (sym e)
