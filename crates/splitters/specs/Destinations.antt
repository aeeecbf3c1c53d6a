-- The destinations' records of the section, and the rows that they leave (mixer.rs `update_splitters`).
-- A destination has two words behind the splitters' rows, used and mix, and 48 floats, 24 volumes and the 24 previous ones. Definitions only.
use Rattle.std.specs.Prelude.{Bool, false, cond, List, [], ◌∷◌, ℕ, zero, suc, ◌+◌, ◌*◌, ltb, eqb, Float, get_or}
use Rattle.std.specs.Float.Ieee.{of_bits}
use Rattle.std.specs.Float.{binary32}
use Rattle.fields.specs.Fields.{field_at}
use Rattle.rows.specs.Rows.{put}
use Rattle.rows.specs.Tables.{table}
use Rattle.splitters.specs.Walk.{walk}
use Rattle.splitters.specs.Lists.{destination_magic}

-- the size of a record: where the second one is found, 0x70 to 0x100 from the first; n are left to try, the next is 0x70 + k * 0x10
unfoldable pub stride_from : List ℕ → ℕ → ℕ → ℕ → ℕ
stride_from d at zero k = 0x70
stride_from d at (suc n) k = cond (eqb (field_at 4 d (at + (0x70 + k * 0x10))) destination_magic) (0x70 + k * 0x10) (stride_from d at n (k + 1))

-- where fewer than two are announced it is 0x70
unfoldable pub stride_of : List ℕ → ℕ → ℕ → ℕ
stride_of d at count = cond (ltb count 2) 0x70 (stride_from d at 10 0)

-- a byte as a flag: 1 for any but 0
unfoldable pub flag_of : ℕ → ℕ
flag_of b = cond (eqb b 0) 0 1

unfoldable pub used_of : List ℕ → ℕ → ℕ
used_of d at = flag_of (field_at 1 d (at + 0x6c))

-- whether a destination comes into use; any word but 0 counts as used
unfoldable pub newly_of : ℕ → ℕ → Bool
newly_of used before = cond (eqb used 0) false (eqb before 0)

-- volume k of the record at `at`, and all 24
unfoldable pub volume_of : List ℕ → ℕ → ℕ → Float
volume_of d at k = of_bits binary32 (field_at 4 d (at + 8 + k * 4))

abbrev pub volumes_of : List ℕ → ℕ → List Float
volumes_of d at = table 24 (volume_of d at)

-- destination id takes the record at `at`: its words
unfoldable pub stored_words : ℕ → ℕ → List ℕ → ℕ → List ℕ → List ℕ
stored_words ns id d at w = put w (ns * 129 + id * 2) (used_of d at ∷ field_at 4 d (at + 0x68) ∷ [])

-- its floats: the volumes, and these as the previous ones too where it comes into use
unfoldable pub stored_floats : ℕ → ℕ → List ℕ → ℕ → List ℕ → List Float → List Float
stored_floats ns id d at w f =
    let g = put f (id * 48) (volumes_of d at) in
    cond (newly_of (used_of d at) (get_or w (ns * 129 + id * 2) 0)) (put g (id * 48 + 24) (volumes_of d at)) g

-- the destination that the record names, if there is one, takes it
unfoldable pub with_words : ℕ → ℕ → List ℕ → ℕ → List ℕ → List ℕ
with_words ns nd d at w =
    let id = field_at 4 d (at + 4) in
    cond (ltb id nd) (stored_words ns id d at w) w

unfoldable pub with_floats : ℕ → ℕ → List ℕ → ℕ → List ℕ → List Float → List Float
with_floats ns nd d at w f =
    let id = field_at 4 d (at + 4) in
    cond (ltb id nd) (stored_floats ns id d at w f) f

-- a place in the block, and the words and floats so far
pub record Left : Type 0 where
  pub at : ℕ
  pub words : List ℕ
  pub floats : List Float

abbrev pub left : ℕ → List ℕ → List Float → Left
left at w f = record { at = at; words = w; floats = f }

-- whether a destination's record is there
abbrev pub destination_at : List ℕ → Left → Bool
destination_at d s = eqb (field_at 4 d s.at) destination_magic

-- it is read; the next is `stride` bytes further
unfoldable pub destination_step : ℕ → ℕ → List ℕ → ℕ → Left → Left
destination_step ns nd d stride s = left (s.at + stride) (with_words ns nd d s.at s.words) (with_floats ns nd d s.at s.words s.floats)

-- at most `count` destinations from `at` on
unfoldable pub destinations_from : ℕ → ℕ → List ℕ → ℕ → ℕ → ℕ → List ℕ → List Float → Left
destinations_from ns nd d stride count at w f = walk (destination_at d) (destination_step ns nd d stride) count (left at w f)
