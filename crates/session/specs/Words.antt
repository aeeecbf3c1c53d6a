-- Laws of the pieces of a line: how long they are, and a reply's words byte by byte. Assumes nothing.
use Rattle.std.specs.Prelude.{◌≡◌, refl, Bool, true, false, List, [], ◌∷◌, ◌++◌, ℕ, zero, suc, ◌+◌, ◌*◌, ◌/◌, ◌≤◌, ◌<◌, leb, eqb, Float, length, get_or}
use Rattle.std.proofs.Common.{ap, sym, ◌∙◌, suc-mul, arith, leb-true, leb-false, eq-eqb, ne_eqb, length-append}
use Rattle.std.specs.Float.{binary32, nan}
use Rattle.std.specs.Float.Ieee.{to_bits}
use Rattle.std.proofs.Math.ListN.{get_or-eq_default}
use Rattle.std.proofs.Math.Seq.{append_snoc}
use Rattle.fields.specs.Fields.{le, field_at}
use Rattle.fields.specs.Reads.{byte_is, field_in, field_out}
use Rattle.rows.specs.Tables.{table, joined}
use Rattle.session.specs.Text.{Text, append, hex_of}
use Rattle.session.specs.Lines.{float_text, floats_text, pair_text, word_text, words_text}
use Rattle.session.specs.Digits.{length_hex}
use Rattle.session.specs.Written.{append_none}

pub length_float : (x : Float) → length (float_text x) ≡ 9
unfolding float_text
length_float x = ap suc (length_hex 8 (to_bits binary32 x))

length_pair : (t : Bool) (at v : ℕ) → length (pair_text t at v) ≤ 14
length_pair true at v = omega arith
length_pair false at v = rw length-append (omega (arith, length_hex 4 at, length_hex 8 v))

pub length_word : (at v : ℕ) → length (word_text at v) ≤ 14
unfolding word_text
length_word at v = length_pair (eqb v 0) at v

-- pieces of at most w bytes each
length_pieces : (w n : ℕ) (f : ℕ → List ℕ) → ((k : ℕ) → length (f k) ≤ w) → length (joined n f) ≤ n * w
unfolding joined
length_pieces w zero f h = omega arith
length_pieces w (suc n) f h = rw (length-append, suc-mul) (omega (arith, h n, length_pieces w n f h))

pub length_floats : (s : List Float) → length (floats_text s) ≤ length s * 9
unfolding floats_text
length_floats s = length_pieces 9 (length s) _ (λ k. omega (arith, length_float (get_or s k nan)))

pub length_words : (d : List ℕ) → length (words_text d) ≤ (length d + 3) / 4 * 14
unfolding words_text
length_words d = length_pieces 14 ((length d + 3) / 4) _ (λ k. length_word (4 * k) (le 4 d (4 * k)))

-- ---- a piece as its bytes

pub float_written : (t : Text) (x : Float) {b : ℕ} → b ≡ to_bits binary32 x → append t (32 ∷ hex_of 8 b) ≡ append t (float_text x)
unfolding float_text
float_written t x e = ap (λ (v : ℕ). append t (32 ∷ hex_of 8 v)) e

pub word_none : (t : Text) (at v : ℕ) → v ≡ 0 → t.end ≤ length t.bytes → t ≡ append t (word_text at v)
unfolding word_text
word_none t at v e h = simp (eq-eqb v 0 e) (append_none t h)

pub word_written : (t : Text) (at v : ℕ) → (v ≡ 0 → ⊥) → append t ((32 ∷ []) ++ hex_of 4 at ++ (58 ∷ []) ++ hex_of 8 v) ≡ append t (word_text at v)
unfolding word_text
word_written t at v h = simp (ne_eqb v 0 h) (ap (λ (l : List ℕ). append t (32 ∷ l)) (append_snoc (hex_of 4 at) 58 (hex_of 8 v)))

-- ---- the words of a reply

-- a byte, past the end too
byte_there : (d : List ℕ) (o : ℕ) → field_at 1 d o ≡ get_or d o 0
byte_there d o = go (leb (o + 1) (length d)) refl
  where
    go : (t : Bool) → leb (o + 1) (length d) ≡ t → field_at 1 d o ≡ get_or d o 0
    go true e = field_in 1 d o (leb-true _ _ e) ∙ sym (byte_is d o)
    go false e = let h : length d < o + 1 = leb-false _ _ e in field_out 1 d o h ∙ sym (get_or-eq_default d 0 {n = o} (omega arith))

pub word_is : (d : List ℕ) (o : ℕ) {a b c e : ℕ} → a ≡ field_at 1 d o → b ≡ field_at 1 d (o + 1) → c ≡ field_at 1 d (o + 2) → e ≡ field_at 1 d (o + 3)
    → a + 256 * (b + 256 * (c + 256 * e)) ≡ le 4 d o
unfolding le
word_is d o ea eb ec ee =
    let e₂ : o + 1 + 1 ≡ o + 2 = omega arith in
    let e₃ : o + 1 + 1 + 1 ≡ o + 3 = omega arith in
    let third = ec ∙ byte_there d (o + 2) ∙ ap (λ (n : ℕ). get_or d n 0) (sym e₂) in
    let fourth = ee ∙ byte_there d (o + 3) ∙ ap (λ (n : ℕ). get_or d n 0) (sym e₃) in
    omega (arith, ea ∙ byte_there d o, eb ∙ byte_there d (o + 1), third, fourth)

-- the elements of a list, one by one
pub table_all : (s : List ℕ) → table (length s) (λ k. get_or s k 0) ≡ s
unfolding table
table_all [] = refl
table_all (x ∷ s) = ap (λ (l : List ℕ). x ∷ l) (table_all s)
