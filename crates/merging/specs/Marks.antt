-- The channel resources that a block's voices name, marked in a list. Definitions only.
use Rattle.std.specs.Prelude.{Bool, true, false, cond, List, ◌≡◌, ℕ, ◌<◌, get_or, set}
use Rattle.rows.specs.Folds.{up_to}
use Rattle.voice_records.specs.Record.{record_channels, id_at}
use Rattle.voices.specs.Voices.{record_at}
use Rattle.merging.specs.Merge.{used_at, names}

-- as many as there can be voices
abbrev pub most_marks : ℕ
most_marks = 64

-- the first n marks are those of the resources that the section's voices name
abbrev pub NamesMarked : ℕ → List ℕ → List Bool → Type 0
NamesMarked n d marks = (j : ℕ) → j < n → get_or marks j false ≡ names n d j

-- by one of a record's channels, by all that it plays, and by a record that may be in use
abbrev pub mark_channel : ℕ → List ℕ → ℕ → List Bool → List Bool
mark_channel n e c marks = set marks (id_at n e c) true

unfoldable pub marked_by : ℕ → List ℕ → List Bool → List Bool
marked_by n e marks = up_to (mark_channel n e) (record_channels e) marks

unfoldable pub marked_at : ℕ → List ℕ → ℕ → List Bool → List Bool
marked_at n d k marks = cond (used_at d k) (marked_by n (record_at d k) marks) marks

-- by the n records of a section
unfoldable pub marked : ℕ → List ℕ → List Bool → List Bool
marked n d marks = up_to (marked_at n d) n marks
