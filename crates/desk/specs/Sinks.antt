-- mixer.rs `update_sinks`. A sink's words are 10: used, device, input count, 6 inputs, downmix given; its floats 4: the downmix's factors.
-- The Rust's list of inputs is the first `input count` of the six, and its downmix `Some` of the four floats where `downmix given` is 1,
-- else `None`: what stands in the other inputs, or in the floats then, is never read. Definitions only.
use Rattle.std.specs.Prelude.{◌≡◌, Bool, true, false, List, [], ◌∷◌, ◌++◌, ℕ, ◌*◌, ◌/◌, ◌≤◌, min, eqb, length, drop, Float}
use Rattle.rows.specs.Rows.{put, part}
use Rattle.rows.specs.Folds.{up_to}
use Rattle.rows.specs.Tables.{table}
use Rattle.fields.specs.Fields.{field_at, flag_at, section_of}
use Rattle.desk.specs.Records.{float_at, word_of}

-- the rows of all sinks
pub record SinkRows : Type 0 where
  pub words : List ℕ
  pub floats : List Float

abbrev pub sink_rows : List ℕ → List Float → SinkRows
sink_rows words floats = record { words = words; floats = floats }

-- the rows of n sinks
pub record SinksSized (n : ℕ) (words : List ℕ) (floats : List Float) : Type 0 where
  pub most : n ≤ 8
  pub words_long : length words ≡ n * 10
  pub floats_long : length floats ≡ n * 4

-- record k
unfoldable pub sink_record : List ℕ → ℕ → List ℕ
sink_record d k = section_of d (k * 0x140) 0x140

-- a device is of kind 1
unfoldable pub is_device : List ℕ → Bool
is_device p = eqb (field_at 1 p 0) 1

-- a device's words
unfoldable pub device_row : List ℕ → List ℕ
device_row p =
    word_of (flag_at p 1) ∷ 1 ∷ min (field_at 4 p 0x120) 6
    ∷ field_at 1 p 0x124 ∷ field_at 1 p 0x125 ∷ field_at 1 p 0x126 ∷ field_at 1 p 0x127 ∷ field_at 1 p 0x128 ∷ field_at 1 p 0x129
    ∷ word_of (flag_at p 0x12b) ∷ []

-- what record p makes of a sink's rows, w and f: one that is no device keeps its inputs and its downmix
unfoldable pub sink_words_if : Bool → List ℕ → List ℕ → List ℕ
sink_words_if true p w = device_row p
sink_words_if false p w = (word_of (flag_at p 1) ∷ 0 ∷ []) ++ drop 2 w

unfoldable pub sink_floats_if : Bool → List ℕ → List Float → List Float
sink_floats_if true p f = table 4 (float_at p 0x12c)
sink_floats_if false p f = f

-- sink k's rows, by its record
unfoldable pub sink_put : List ℕ → ℕ → SinkRows → SinkRows
sink_put p k st = record {
  words = put st.words (k * 10) (sink_words_if (is_device p) p (part 10 (k * 10) st.words));
  floats = put st.floats (k * 4) (sink_floats_if (is_device p) p (part 4 (k * 4) st.floats));
}

-- sink k has record k
unfoldable pub sink_step : List ℕ → ℕ → SinkRows → SinkRows
sink_step d k st = sink_put (sink_record d k) k st

-- one after the other, up to the first record that is not whole
unfoldable pub sinks_of : List ℕ → ℕ → SinkRows → SinkRows
sinks_of d n st = up_to (sink_step d) (min n (length d / 0x140)) st
