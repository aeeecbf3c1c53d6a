-- Zeros and words as bytes, and what a writer leaves that puts them. Assumes nothing.
use Rattle.std.specs.Prelude.{◌≡◌, refl, List, [], ◌∷◌, ◌++◌, ℕ, zero, suc, ◌+◌, ◌*◌, ◌≤◌, length, get_or, replicate}
use Rattle.std.proofs.Common.{ap, sym, arith}
use Rattle.std.proofs.lemmas.List.{length-replicate, replicate-append-replicate}
use Rattle.rows.specs.Rows.{put, part, put_part, put_more}
use Rattle.rows.specs.Tables.{table, joined, length_joined}
use Rattle.fields.specs.Fields.{bytes_of}
use Rattle.fields.specs.Writes.{length_bytes}

-- n bytes of 0
unfoldable pub zeros : ℕ → List ℕ
zeros n = replicate n 0

-- each word as four bytes
unfoldable pub words_bytes : List ℕ → List ℕ
words_bytes ws = joined (length ws) (λ k. bytes_of 4 (get_or ws k 0))

-- ---- laws

pub length_zeros : (n : ℕ) → length (zeros n) ≡ n
unfolding zeros
length_zeros n = length-replicate n 0

pub zeros_add : (a b : ℕ) → zeros a ++ zeros b ≡ zeros (a + b)
unfolding zeros
zeros_add a b = replicate-append-replicate a b 0

-- a table of zeros
pub table_zeros : (n : ℕ) → table n (λ _. 0) ≡ zeros n
unfolding table zeros
table_zeros zero = refl
table_zeros (suc n) = ap (λ (x : List ℕ). 0 ∷ x) (unfold zeros in table_zeros n)

pub length_words : (ws : List ℕ) → length (words_bytes ws) ≡ length ws * 4
unfolding words_bytes
length_words ws = length_joined 4 (length ws) _ (λ k. length_bytes 4 _)

-- nothing put
pub put_none : (s : List ℕ) (at : ℕ) → at ≤ length s → s ≡ put s at []
unfolding part
put_none s at h = sym (put_part 0 at s (omega arith))

-- a number's bytes, and zeros behind them
pub put_padded : (s : List ℕ) (at w v n : ℕ) {t u : List ℕ} → at + w + n ≤ length s → t ≡ put s at (bytes_of w v) → u ≡ put t (at + w) (zeros n)
    → u ≡ put s at (bytes_of w v ++ zeros n)
put_padded s at w v n h e₁ e₂ = put_more s at w (bytes_of w v) (zeros n) (length_bytes w v) (omega (arith, length_zeros n)) e₁ e₂
