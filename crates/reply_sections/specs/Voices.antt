-- The voices' status in the reply: of one in use and not fresh what it has played and consumed, else zeros. Assumes nothing.
use Rattle.std.specs.Prelude.{◌≡◌, Bool, true, false, cond, not, ◌&&◌, List, ◌++◌, ℕ, ◌+◌, ◌*◌, eqb, length, get_or, ◌⊎◌}
use Rattle.std.proofs.Math.Logic.{⊎_elim}
use borrow.Author.Tests.{eq-eqb, ne_eqb}
use Rattle.std.proofs.Common.{length-append}
use Rattle.rows.specs.Tables.{joined, length_joined}
use Rattle.fields.specs.Fields.{bytes_of}
use Rattle.fields.specs.Writes.{length_bytes}
use Rattle.params.specs.Laws.{and_false}
use Rattle.reply_sections.specs.Bytes.{zeros, length_zeros}

-- what a voice has played and consumed
unfoldable pub heard_of : ℕ → ℕ → List ℕ
heard_of played consumed = bytes_of 8 played ++ bytes_of 4 consumed ++ zeros 4

-- by its fields in_use and fresh
unfoldable pub status_of : ℕ → ℕ → ℕ → ℕ → List ℕ
status_of used fresh played consumed = cond (not (eqb used 0) && eqb fresh 0) (heard_of played consumed) (zeros 16)

-- voice i: in_use, fresh and consumed in its 58 words, played in its 14 longs
unfoldable pub status_at : List ℕ → List ℕ → ℕ → List ℕ
status_at words longs i = status_of (get_or words (i * 58) 0) (get_or words (i * 58 + 1) 0) (get_or longs (i * 14 + 1) 0) (get_or words (i * 58 + 23) 0)

-- n voices
unfoldable pub voices_bytes : ℕ → List ℕ → List ℕ → List ℕ
voices_bytes n words longs = joined n (status_at words longs)

-- ---- laws

module _ (used fresh played consumed : ℕ) where
  pub status_unused : used ≡ 0 → status_of used fresh played consumed ≡ zeros 16
  unfolding status_of
  status_unused h = simp (eq-eqb used 0 h)

  pub status_fresh : (fresh ≡ 0 → ⊥) → status_of used fresh played consumed ≡ zeros 16
  unfolding status_of
  status_fresh h = simp (ne_eqb fresh 0 h, and_false)

  pub status_silent : (used ≡ 0) ⊎ ((used ≡ 0 → ⊥) × (fresh ≡ 0 → ⊥)) → status_of used fresh played consumed ≡ zeros 16
  status_silent = ⊎_elim status_unused (λ (h : (used ≡ 0 → ⊥) × (fresh ≡ 0 → ⊥)). status_fresh h.1)

  pub status_heard : (used ≡ 0 → ⊥) → fresh ≡ 0 → status_of used fresh played consumed ≡ heard_of played consumed
  unfolding status_of
  status_heard h k = simp (ne_eqb used 0 h, eq-eqb fresh 0 k)

pub length_heard : (played consumed : ℕ) → length (heard_of played consumed) ≡ 0x10
unfolding heard_of
length_heard played consumed = rw (length-append, length-append, length_bytes, length_bytes, length_zeros)

-- of either answer
length_either : (b : Bool) (x y : List ℕ) (n : ℕ) → length x ≡ n → length y ≡ n → length (cond b x y) ≡ n
length_either true x y n hx hy = hx
length_either false x y n hx hy = hy

pub length_status : (used fresh played consumed : ℕ) → length (status_of used fresh played consumed) ≡ 0x10
unfolding status_of
length_status used fresh played consumed =
    length_either (not (eqb used 0) && eqb fresh 0) (heard_of played consumed) (zeros 0x10) 0x10 (length_heard played consumed) (length_zeros 0x10)

pub length_status_at : (words longs : List ℕ) (i : ℕ) → length (status_at words longs i) ≡ 0x10
unfolding status_at
length_status_at words longs i = length_status _ _ _ _

pub length_voices : (n : ℕ) (words longs : List ℕ) → length (voices_bytes n words longs) ≡ n * 0x10
unfolding voices_bytes
length_voices n words longs = length_joined 0x10 n _ (length_status_at words longs)
