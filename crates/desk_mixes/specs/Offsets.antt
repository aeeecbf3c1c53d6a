-- Laws of a mix's offset. Assumes nothing.
use Rattle.std.specs.Prelude.{◌≡◌, refl, List, ℕ, zero, suc, ◌+◌, ◌*◌, ◌≤◌, ◌<◌, length, get_or, set}
use Rattle.std.proofs.Common.{sym, ◌∙◌, ⊎_elim, eq-or-lt_of_le, arith, length-set, get_or-set_same, get_or-set_other}
use Rattle.rows.specs.Folds.{up_to, up_to_kept}
use Rattle.desk.specs.Columns.{AtMost}
use Rattle.desk_mixes.specs.Mixes.{counts_before, offset_step, offsets_of}

-- k mixes of at most 24 buffers
pub counts_below : (n k : ℕ) (words : List ℕ) → k ≤ n → AtMost n 5 1 24 words → counts_before k words ≤ k * 24
unfolding counts_before
counts_below n zero words h all = omega arith
counts_below n (suc k) words h all = omega (arith, all k h, counts_below n k words (omega arith) all)

-- a store of an offset changes no other word of a row
pub offset_other : (words : List ℕ) (k v i j : ℕ) → j < 4 → get_or (set words (k * 5 + 4) v) (i * 5 + j) 0 ≡ get_or words (i * 5 + j) 0
offset_other words k v i j h = get_or-set_other words (k * 5 + 4) (i * 5 + j) v 0 (λ e. omega arith)

-- nor a sum of those words
pub counts_set : (words : List ℕ) (k v i : ℕ) → counts_before i (set words (k * 5 + 4) v) ≡ counts_before i words
unfolding counts_before
counts_set words k v zero = refl
counts_set words k v (suc i) =
    simp (counts_set words k v i, offset_other words k v i 0 (omega arith), offset_other words k v i 1 (omega arith))

pub length_offsets : (n : ℕ) (words : List ℕ) → length (offsets_of n words) ≡ length words
unfolding offsets_of offset_step
length_offsets n words = up_to_kept offset_step length (λ k w. length-set w (k * 5 + 4) (counts_before k w)) n words

-- the offsets change no other word of a row
pub offsets_other : (n i j : ℕ) (words : List ℕ) → j < 4 → get_or (offsets_of n words) (i * 5 + j) 0 ≡ get_or words (i * 5 + j) 0
unfolding offsets_of offset_step
offsets_other n i j words h = up_to_kept offset_step (λ (w : List ℕ). get_or w (i * 5 + j) 0) (λ k w. offset_other w k (counts_before k w) i j h) n words

counts_offsets : (n i : ℕ) (words : List ℕ) → counts_before i (offsets_of n words) ≡ counts_before i words
unfolding offsets_of offset_step
counts_offsets n i words = up_to_kept offset_step (counts_before i) (λ k w. counts_set w k (counts_before k w) i) n words

-- mix k's offset is the buffers of those before it
offset_of : (n k : ℕ) (words : List ℕ) → n * 5 ≤ length words → k < n → get_or (offsets_of n words) (k * 5 + 4) 0 ≡ counts_before k words
unfolding offsets_of offset_step up_to
offset_of zero k words h l = absurd (omega arith)
offset_of (suc n) k words h l =
    let u = offsets_of n words in
    let inside : n * 5 + 4 < length u = rw length_offsets (omega arith) in
    ⊎_elim
    (λ (e : suc k ≡ suc n).
    let q : k ≡ n = omega arith in
    rw q (get_or-set_same u (n * 5 + 4) (counts_before n u) 0 inside ∙ counts_offsets n n words))
    (λ (b : suc k < suc n).
    get_or-set_other u (n * 5 + 4) (k * 5 + 4) (counts_before n u) 0 (λ e. omega arith) ∙ offset_of n k words (omega arith) (omega arith))
    (eq-or-lt_of_le l)

pub offset_is : (n k : ℕ) (words : List ℕ) → n * 5 ≤ length words → k < n → get_or (offsets_of n words) (k * 5 + 4) 0 ≡ counts_before k (offsets_of n words)
offset_is n k words h l = offset_of n k words h l ∙ sym (counts_offsets n k words)
