-- Worked examples: a state of one voice that is not in use, by its fraction and by the mix's offset. Assumes nothing.
use Rattle.std.specs.Prelude.{◌≡◌, refl, Bool, true, false, List, [], ◌∷◌, ◌++◌, ℕ, Float, pos, replicate}
use Rattle.std.specs.Float.{nan, fin}
use Rattle.std.specs.Float.Ieee.{le, lt, eq}
use Rattle.floats.specs.Defs.{zero32, one}
use Rattle.rows.specs.Rows.{part}
use Rattle.params.specs.Params.{params_of}
use Rattle.state.specs.State.{State, state_of, places_of}
use Rattle.row_tests.specs.Tests.{every, all, sum}
use Rattle.row_tests.specs.Limits.{within, rows_within}
use Rattle.row_tests.specs.Voices.{voice_words_whole, some_channel, voice_whole, voices_whole}
use Rattle.row_tests.specs.Desk.{mix_whole, mixes_whole, sinks_whole, lists_whole}
use Rattle.whole.specs.Counts.{samples_allowed, counts_allowed}
use Rattle.whole.specs.Whole.{lengths_right, rows_whole, whole_by, whole_of}

-- 1 sample, 1 voice, all else 0; the voice's fraction, and the offset of mix 0
abbrev pub plain : Float → ℕ → State
plain fraction offset =
    state_of ((0 ∷ 1 ∷ 0 ∷ 0 ∷ 1 ∷ 0 ∷ 0 ∷ 0 ∷ 0 ∷ 0 ∷ []) ++ replicate 58 0 ++ (0 ∷ 0 ∷ 0 ∷ 0 ∷ offset ∷ []))
    (replicate 15 0)
    ((zero32 ∷ zero32 ∷ zero32 ∷ fraction ∷ []) ++ replicate 625 zero32)
    (replicate 3 0)
    (replicate 18 zero32)

-- fractions 0, -0, 1 and NaN, and an offset of 1
unfoldable pub gives : List Bool
gives =
    whole_of (plain zero32 0)
    ∷ whole_of (plain (fin true 0 (pos 0)) 0)
    ∷ whole_of (plain one 0)
    ∷ whole_of (plain nan 0)
    ∷ whole_of (plain zero32 1)
    ∷ []

abbrev pub says : List Bool
says = true ∷ true ∷ false ∷ false ∷ false ∷ []

pub examples : gives ≡ says
unfolding gives whole_of whole_by rows_whole lengths_right samples_allowed counts_allowed voices_whole voice_whole voice_words_whole some_channel mixes_whole mix_whole sinks_whole lists_whole within rows_within every all sum places_of params_of part le lt eq
examples = refl
