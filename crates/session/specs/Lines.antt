-- The lines that the session program prints (docs/QUESTIONS.md, "The session program"). Definitions only.
use Rattle.std.specs.Prelude.{Bool, true, false, List, [], ◌∷◌, ◌++◌, ℕ, ◌+◌, ◌*◌, ◌/◌, eqb, Float, length, get_or}
use Rattle.std.specs.Float.{binary32, nan}
use Rattle.std.specs.Float.Ieee.{to_bits}
use Rattle.fields.specs.Fields.{le}
use Rattle.rows.specs.Tables.{joined}
use Rattle.session.specs.Text.{hex_of, decimal_of}

-- "frames ", "reply " and "refused "
abbrev pub frames_word : List ℕ
frames_word = 102 ∷ 114 ∷ 97 ∷ 109 ∷ 101 ∷ 115 ∷ 32 ∷ []

abbrev pub reply_word : List ℕ
reply_word = 114 ∷ 101 ∷ 112 ∷ 108 ∷ 121 ∷ 32 ∷ []

abbrev pub refused_word : List ℕ
refused_word = 114 ∷ 101 ∷ 102 ∷ 117 ∷ 115 ∷ 101 ∷ 100 ∷ 32 ∷ []

abbrev pub line_end : List ℕ
line_end = 10 ∷ []

-- ---- a render's frames, left and right by turns: a space and the bits of each; a NaN is 7fc00000

unfoldable pub float_text : Float → List ℕ
unfolding hex_of
float_text x = 32 ∷ hex_of 8 (to_bits binary32 x)

unfoldable pub floats_text : List Float → List ℕ
unfolding float_text joined
floats_text frames = joined (length frames) (λ k. float_text (get_or frames k nan))

unfoldable pub frames_line : List Float → List ℕ
unfolding decimal_of floats_text
frames_line frames = frames_word ++ decimal_of (length frames / 2) ++ floats_text frames ++ line_end

-- ---- an update's reply: each 32-bit word that is not 0, as " offset:value"; past the end are zeros

abbrev pub pair_text : Bool → ℕ → ℕ → List ℕ
pair_text true at v = []
pair_text false at v = 32 ∷ hex_of 4 at ++ (58 ∷ hex_of 8 v)

unfoldable pub word_text : ℕ → ℕ → List ℕ
unfolding hex_of
word_text at v = pair_text (eqb v 0) at v

unfoldable pub words_text : List ℕ → List ℕ
unfolding word_text joined le
words_text reply = joined ((length reply + 3) / 4) (λ k. word_text (4 * k) (le 4 reply (4 * k)))

unfoldable pub reply_line : List ℕ → List ℕ
unfolding decimal_of words_text
reply_line reply = reply_word ++ decimal_of (length reply) ++ words_text reply ++ line_end

-- ---- a refusal

unfoldable pub refused_line : ℕ → List ℕ
unfolding decimal_of
refused_line n = refused_word ++ decimal_of n ++ line_end
