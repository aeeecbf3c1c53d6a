-- The splitters' records of the section, and the lists of destinations that they leave (mixer.rs `update_splitters`).
-- A splitter's row is 129 words: its list's length, its list, and what is left of longer ones. Definitions only.
use Rattle.std.specs.Prelude.{Bool, cond, List, ◌∷◌, ℕ, ◌+◌, ◌*◌, min, ltb, eqb}
use Rattle.fields.specs.Fields.{field_at, positive}
use Rattle.rows.specs.Rows.{put}
use Rattle.rows.specs.Tables.{table}
use Rattle.splitters.specs.Walk.{walk}

-- the first words of a splitter's and of a destination's record, "SNDI" and "SNDD"
abbrev pub splitter_magic : ℕ
splitter_magic = 0x49444e53

abbrev pub destination_magic : ℕ
destination_magic = 0x44444e53

-- entry k of the record at `at`
unfoldable pub entry_of : List ℕ → ℕ → ℕ → ℕ
entry_of d at k = positive (field_at 4 d (at + 0x10 + k * 4))

-- how many entries the record has: no more than the destinations
unfoldable pub count_of : ℕ → List ℕ → ℕ → ℕ
count_of nd d at = min (field_at 4 d (at + 0xc)) nd

-- the record's n entries as the list of the splitter that it names. An id is an i32: a negative one is above every count by its bits.
unfoldable pub with_list : ℕ → ℕ → List ℕ → ℕ → List ℕ → List ℕ
with_list ns n d at w =
    let id = field_at 4 d (at + 4) in
    cond (ltb id ns) (put w (id * 129) (n ∷ table n (entry_of d at))) w

-- where the record after one with n entries begins: right behind it, or after 0xc bytes more
unfoldable pub next_of : ℕ → List ℕ → ℕ → ℕ
next_of n d at =
    let next = at + 0x10 + n * 4 in
    let magic = field_at 4 d next in
    cond (eqb magic splitter_magic) next (cond (eqb magic destination_magic) next (next + 0xc))

-- a place in the block, and the words so far
pub record Lists : Type 0 where
  pub at : ℕ
  pub words : List ℕ

abbrev pub lists : ℕ → List ℕ → Lists
lists at w = record { at = at; words = w }

-- whether a splitter's record is there
abbrev pub splitter_at : List ℕ → Lists → Bool
splitter_at d s = eqb (field_at 4 d s.at) splitter_magic

-- it is read: the splitter gets its list, and the next record is behind
unfoldable pub splitter_step : ℕ → ℕ → List ℕ → Lists → Lists
splitter_step ns nd d s =
    let n = count_of nd d s.at in
    lists (next_of n d s.at) (with_list ns n d s.at s.words)

-- at most `count` splitters from `at` on
unfoldable pub splitters_from : ℕ → ℕ → List ℕ → ℕ → ℕ → List ℕ → Lists
splitters_from ns nd d count at w = walk (splitter_at d) (splitter_step ns nd d) count (lists at w)
