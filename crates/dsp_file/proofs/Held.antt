-- Question 12 says just whether the decoder gives all samples. Assumes nothing.
use Prim.Native.Nat.{ℕ, ◌+◌, ◌%◌, ◌≤◌, ◌<◌, min}
use mathlib.Core.Bool.{Bool, true, false, false≢true}
use mathlib.Core.List.{List}
use mathlib.Core.Logic.{◌≢◌, ◌↔◌, ⊎_elim}
use mathlib.Core.Path.{◌≡◌, refl, ap, ◌∙◌}
use native.Mathlib.Nat.{zero-add, eq-zero-or-pos}
use native.Mathlib.Omega.{arith}
use borrow.Author.Tests.{leb-true, le-leb}
use lib.IntN.{ℤ}
use lib.ListN.{length}
use Rattle.adpcm.specs.declared.context.AdpcmContext.{AdpcmContext}
use Rattle.adpcm.specs.Places.{nibble_of, size_of, held_of, nibble_at_lem}
use Rattle.adpcm.specs.Decode.{run_of}
use Rattle.adpcm.specs.Runs.{run_count}
use Rattle.adpcm.specs.Counts.{count_held}
use Rattle.dsp_header.specs.Header.{header_of}
use Rattle.dsp_file.specs.File.{plain_file, holds_samples, data_of, read_by, read_call}

-- ---- b bytes hold n samples just where they are at least the bytes of n samples

size_held : (n b : ℕ) → size_of n ≤ b → n ≤ held_of b
unfolding size_of held_of
size_held n b h =
    ⊎_elim
    (λ (p : n % 14 ≡ 0). let e = (nibble_at_lem n).first p in omega arith)
    (λ (p : 0 < n % 14). let e = (nibble_at_lem n).later p in omega arith)
    (eq-zero-or-pos (n % 14))

held_size : (n b : ℕ) → n ≤ held_of b → size_of n ≤ b
unfolding size_of held_of
held_size n b h =
    ⊎_elim
    (λ (p : n % 14 ≡ 0). let e = (nibble_at_lem n).first p in omega arith)
    (λ (p : 0 < n % 14). let e = (nibble_at_lem n).later p in omega arith)
    (eq-zero-or-pos (n % 14))

module _ (d : List ℕ) (n : ℕ) (k : List ℤ) (x : AdpcmContext) where
  -- how many of n samples from sample 0 on the decoder gives
  given_held : length (run_of d 0 n k x).samples ≡ min n (held_of (length d))
  unfolding nibble_of
  given_held =
      let e : held_of (0 + length d) ≡ held_of (length d) = ap held_of (zero-add (length d)) in
      run_count d 0 n k x ∙ count_held (length d) 0 n ∙ omega arith

  -- the data holds n samples just where the decoder, from sample 0 on, gives all of them, with any coefficients and context
  pub holds : (holds_samples n (length d) ≡ true) ↔ (length (run_of d 0 n k x).samples ≡ n)
  unfolding holds_samples
  holds = (
    λ e. omega (arith, given_held, size_held n (length d) (leb-true (size_of n) (length d) e)),
    λ e. le-leb (size_of n) (length d) (held_size n (length d) (omega (arith, given_held))),
  )

-- ---- a file that question 11 accepts is not refused by 12 just where the decoder gives as many samples as its header states

by_twelve : (a b : Bool) (file : List ℕ) → a ≡ true → ((read_by a b file).number ≢ 12) ↔ (b ≡ true)
by_twelve true true file e = (λ _. refl, λ _ z. omega arith)
by_twelve true false file e = (λ f. absurd (f refl), λ z. absurd (false≢true z))
by_twelve false b file e = absurd (false≢true e)

pub not_twelve : (file : List ℕ) (k : List ℤ) (x : AdpcmContext) → plain_file file ≡ true
    → (let samples = (header_of file).samples in
    ((read_call file).number ≢ 12) ↔ (length (run_of (data_of file) 0 samples k x).samples ≡ samples))
unfolding read_call
not_twelve file k x p =
    let n = (header_of file).samples in
    let asked = by_twelve (plain_file file) (holds_samples n (length (data_of file))) file p in
    let held = holds (data_of file) n k x in
    (λ f. held.0 (asked.0 f), λ e. asked.1 (held.1 e))
