-- mixer.rs `update_mixes`. A mix's words are 5: used, buffer_count, destination, splitter, offset; its floats 577: volume, 576 volumes.
-- Definitions only.
use Rattle.std.specs.Prelude.{◌≡◌, Bool, true, false, List, [], ◌∷◌, ◌++◌, ℕ, zero, suc, ◌+◌, ◌-◌, ◌*◌, ◌/◌, ◌≤◌, ◌<◌, min, leb, ltb, length, get_or, set, drop, Float}
use Rattle.rows.specs.Rows.{put, part}
use Rattle.rows.specs.Folds.{up_to}
use Rattle.rows.specs.Tables.{table}
use Rattle.fields.specs.Fields.{field_at, flag_at, positive, section_of}
use Rattle.desk.specs.Records.{float_at}

-- the rows of all mixes
pub record MixRows : Type 0 where
  pub words : List ℕ
  pub floats : List Float

abbrev pub mix_rows : List ℕ → List Float → MixRows
mix_rows words floats = record { words = words; floats = floats }

-- the rows of n mixes, and each has at most 24 buffers
pub record MixesSized (n : ℕ) (words : List ℕ) (floats : List Float) : Type 0 where
  pub some : 1 ≤ n
  pub most : n ≤ 32
  pub words_long : length words ≡ n * 5
  pub floats_long : length floats ≡ n * 577
  pub counts : (k : ℕ) → k < n → get_or words (k * 5 + 1) 0 ≤ 24

-- ---- the records

-- from revision 7 on the section has a header of 0x20 bytes, and records of changed mixes only
unfoldable pub dirty_only : ℕ → Bool
dirty_only revision = leb 7 revision

-- where the records begin
unfoldable pub mix_base : Bool → ℕ
mix_base true = 0x20
mix_base false = 0

-- how many there should be
unfoldable pub mix_count : Bool → List ℕ → ℕ
mix_count true d = field_at 4 d 4
mix_count false d = length d / 0x930

-- how many records are read: up to the first that is not whole
unfoldable pub mixes_read : Bool → List ℕ → ℕ
mixes_read dirty d = min (mix_count dirty d) ((length d - mix_base dirty) / 0x930)

-- record i
unfoldable pub mix_record : Bool → List ℕ → ℕ → List ℕ
mix_record dirty d i = section_of d (mix_base dirty + i * 0x930) 0x930

-- the mix that record i, p, is for
unfoldable pub mix_id : Bool → List ℕ → ℕ → ℕ
mix_id true p i = positive (field_at 4 p 0x10)
mix_id false p i = i

-- ---- what a record, p, makes of its mix's rows, w and f

-- used, buffer_count, destination and splitter of a mix in use
unfoldable pub mix_head : List ℕ → List ℕ
mix_head p = 1 ∷ min (field_at 4 p 0x08) 24 ∷ field_at 4 p 0x924 ∷ field_at 4 p 0x928 ∷ []

-- its volume and volumes
unfoldable pub mix_volumes : List ℕ → List Float
mix_volumes p = float_at p 0x00 0 ∷ table 576 (float_at p 0x24)

-- one that is not in use is marked so, and the rest stays
unfoldable pub mix_words_if : Bool → List ℕ → List ℕ → List ℕ
mix_words_if true p w = mix_head p ++ drop 4 w
mix_words_if false p w = (0 ∷ []) ++ drop 1 w

unfoldable pub mix_floats_if : Bool → List ℕ → List Float → List Float
mix_floats_if true p f = mix_volumes p
mix_floats_if false p f = f

-- in use is a record whose byte 0x0c is not 0
unfoldable pub mix_words : List ℕ → List ℕ → List ℕ
mix_words p w = mix_words_if (flag_at p 0x0c) p w

unfoldable pub mix_floats : List ℕ → List Float → List Float
mix_floats p f = mix_floats_if (flag_at p 0x0c) p f

-- mix id's rows, by its record
unfoldable pub mix_put : List ℕ → ℕ → MixRows → MixRows
mix_put p id st = record {
  words = put st.words (id * 5) (mix_words p (part 5 (id * 5) st.words));
  floats = put st.floats (id * 577) (mix_floats p (part 577 (id * 577) st.floats));
}

-- nothing where there is no such mix
unfoldable pub mix_put_if : Bool → List ℕ → ℕ → MixRows → MixRows
mix_put_if true p id st = mix_put p id st
mix_put_if false p id st = st

-- record i, p, acts on the mix that it is for, one of n
unfoldable pub mix_act : Bool → ℕ → List ℕ → ℕ → MixRows → MixRows
mix_act dirty n p i st = mix_put_if (ltb (mix_id dirty p i) n) p (mix_id dirty p i) st

unfoldable pub mix_step : Bool → List ℕ → ℕ → ℕ → MixRows → MixRows
mix_step dirty d n i st = mix_act dirty n (mix_record dirty d i) i st

-- one record after the other
unfoldable pub mix_records : Bool → List ℕ → ℕ → MixRows → MixRows
mix_records dirty d n st = up_to (mix_step dirty d n) (mixes_read dirty d) st

-- ---- the offsets

-- the buffers of mixes 0 to k - 1, also of those that are not in use
unfoldable pub counts_before : ℕ → List ℕ → ℕ
counts_before zero words = 0
counts_before (suc k) words = counts_before k words + get_or words (k * 5 + 1) 0

-- mix k begins where they end
unfoldable pub offset_step : ℕ → List ℕ → List ℕ
offset_step k words = set words (k * 5 + 4) (counts_before k words)

unfoldable pub offsets_of : ℕ → List ℕ → List ℕ
offsets_of n words = up_to offset_step n words

-- `update_mixes`: the records, then the offsets
unfoldable pub mixes_of : ℕ → List ℕ → ℕ → MixRows → MixRows
mixes_of revision d n st = record {
  words = offsets_of n (mix_records (dirty_only revision) d n st).words;
  floats = (mix_records (dirty_only revision) d n st).floats;
}
