-- The worked session of docs/QUESTIONS.md, and inputs near it: what a definition gives beside what is to come out. Assumes nothing.
use Rattle.std.specs.Prelude.{◌≡◌, refl, true, false, List, [], ◌∷◌, ◌++◌, ℕ, replicate}
use Rattle.fields.specs.Fields.{le, field_at, section_of, rest_of, bytes_of}
use Rattle.rows.specs.Tables.{joined}
use Rattle.params.specs.Params.{parse_of}
use Rattle.session.specs.Input.{update_of, call_of}
use Rattle.session.specs.Question.{small_of, calls_whole, accepted_of}
use Rattle.session.specs.Text.{digits_of, hex_of, places_of, decimal_of}
use Rattle.session.specs.Lines.{word_text, words_text, reply_line, refused_line}

-- so many samples and voices, revision word 0x35564552, no memory, and n calls
unfoldable pub input : ℕ → ℕ → ℕ → List ℕ → List ℕ
unfolding bytes_of
input samples voices n calls =
    bytes_of 4 0x34
    ++ (bytes_of 4 0 ++ bytes_of 4 samples ++ replicate 8 0 ++ bytes_of 4 voices ++ replicate 28 0 ++ bytes_of 4 0x35564552)
    ++ bytes_of 4 0
    ++ bytes_of 4 n
    ++ calls

-- a render, then an update that expects 272 bytes and has no input
abbrev pub calls : List ℕ
calls = 1 ∷ 0 ∷ 16 ∷ 1 ∷ 0 ∷ 0 ∷ 0 ∷ 0 ∷ 0 ∷ 0 ∷ []

-- the worked session; 64 samples and 4 voices; one more of each; a byte after the calls; a call that is missing; a call of another kind
pub asked : (accepted_of (input 2 0 2 calls) ≡ true)
    × (accepted_of (input 64 4 2 calls) ≡ true)
    × (accepted_of (input 65 4 2 calls) ≡ false)
    × (accepted_of (input 64 5 2 calls) ≡ false)
    × (accepted_of (input 2 0 2 (calls ++ (0 ∷ []))) ≡ false)
    × (accepted_of (input 2 0 3 calls) ≡ false)
    × (accepted_of (input 2 0 1 (2 ∷ [])) ≡ false)
unfolding accepted_of input bytes_of small_of calls_whole call_of update_of field_at le section_of rest_of parse_of
asked = (refl, refl, refl, refl, refl, refl, refl)

-- "refused 10", and the line of a reply of nine bytes: "reply 9 0004:000000ab 0008:00000001"
pub lines : (refused_line 10 ≡ 114 ∷ 101 ∷ 102 ∷ 117 ∷ 115 ∷ 101 ∷ 100 ∷ 32 ∷ 49 ∷ 48 ∷ 10 ∷ [])
    × (reply_line (0 ∷ 0 ∷ 0 ∷ 0 ∷ 0xab ∷ 0 ∷ 0 ∷ 0 ∷ 1 ∷ [])
    ≡ 114 ∷ 101 ∷ 112 ∷ 108 ∷ 121 ∷ 32 ∷ 57
    ∷ 32 ∷ 48 ∷ 48 ∷ 48 ∷ 52 ∷ 58 ∷ 48 ∷ 48 ∷ 48 ∷ 48 ∷ 48 ∷ 48 ∷ 97 ∷ 98
    ∷ 32 ∷ 48 ∷ 48 ∷ 48 ∷ 56 ∷ 58 ∷ 48 ∷ 48 ∷ 48 ∷ 48 ∷ 48 ∷ 48 ∷ 48 ∷ 49
    ∷ 10 ∷ [])
unfolding refused_line reply_line words_text word_text joined decimal_of places_of hex_of digits_of le
lines = (refl, refl)
