-- The rows of n voices, each with its marks in range, and one that is stored among them. Assumes nothing.
use Rattle.std.specs.Prelude.{◌≡◌, refl, ◌⊎◌, List, ℕ, zero, suc, ◌+◌, ◌*◌, ◌≤◌, ◌<◌, length}
use Rattle.std.proofs.Common.{ap, sym, subst, inl, inr, ⊎_elim, arith}
use Rattle.rows.specs.Rows.{part, put, part_put_same}
use Rattle.rows.specs.Folds.{row_end}
use Rattle.voice.specs.declared.Voice.{Voice}
use Rattle.voice_rows.specs.VoiceRow.{words_of, length_words}
use Rattle.state_voices.specs.Rows.{put_apart, before_or_after}
use Rattle.whole_rows.specs.Marks.{Marks, marks_stored}

-- words 10 + j * 58 and on are those of voice j
abbrev pub row_in : ℕ → List ℕ → List ℕ
row_in j words = part 58 (10 + j * 58) words

abbrev pub Marked : ℕ → List ℕ → Type 0
Marked n words = (j : ℕ) → j < n → Marks (row_in j words)

same_or_not : (j k : ℕ) → (j ≡ k) ⊎ (j ≡ k → ⊥)
same_or_not zero zero = inl refl
same_or_not zero (suc k) = inr (λ e. omega arith)
same_or_not (suc j) zero = inr (λ e. omega arith)
same_or_not (suc j) (suc k) =
    ⊎_elim (λ (e : j ≡ k). inl (ap suc e)) (λ (d : j ≡ k → ⊥). inr (λ e. d (omega arith))) (same_or_not j k)

-- what holds of k and of every other number
pub one_and_others {ℓ} : (P : ℕ → Type ℓ) (k : ℕ) → P k → (j : ℕ) → ((j ≡ k → ⊥) → P j) → P j
one_and_others P k h j others = ⊎_elim (λ (e : j ≡ k). subst P (sym e) h) others (same_or_not j k)

-- the words with v as voice k
pub marked_put : {n : ℕ} (words : List ℕ) → 10 + n * 58 ≤ length words → Marked n words → {k : ℕ} → k < n → (v : Voice)
    → Marked n (put words (10 + k * 58) (words_of v))
marked_put {n} words long marked {k} h v j l =
    let fits : 10 + k * 58 + 58 ≤ length words = omega (arith, row_end 10 58 k n h) in
    let e = part_put_same words (10 + k * 58) (words_of v) (rw (length_words v) fits) 58 (length_words v) in
    one_and_others (λ i. Marks (row_in i (put words (10 + k * 58) (words_of v)))) k (subst Marks (sym e) (marks_stored v)) j
    (λ d. subst Marks (sym (put_apart words (10 + k * 58) 58 (words_of v) (length_words v) fits 58 (10 + j * 58) (sides (before_or_after j k d)))) (marked j l))
  where
    sides : (j < k) ⊎ (k < j) → (10 + j * 58 + 58 ≤ 10 + k * 58) ⊎ (10 + k * 58 + 58 ≤ 10 + j * 58)
    sides (inl l) = inl (row_end 10 58 j k l)
    sides (inr g) = inr (row_end 10 58 k j g)
