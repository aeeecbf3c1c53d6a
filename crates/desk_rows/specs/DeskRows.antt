-- Where the desk's rows have what. Definitions only.
-- A mix has 5 words (used, buffer_count, destination, splitter, offset) and 577 floats (volume, then 24 volumes for each of 24 buffers).
-- A splitter has 129 words (how many destinations it names, their numbers); a destination 2 words (used, mix), behind all splitters, and
-- 48 floats (volumes 24, previous 24). A channel resource has 48 floats (mix 24, previous 24).
use Rattle.std.specs.Prelude.{◌≡◌, Bool, not, ◌&&◌, List, ℕ, ◌+◌, ◌*◌, ◌≤◌, ◌<◌, ltb, eqb, length, get_or}

-- ---- mix m

abbrev pub mix_used : List ℕ → ℕ → Bool
mix_used mixes m = not (eqb (get_or mixes (m * 5) 0) 0)

abbrev pub mix_buffers : List ℕ → ℕ → ℕ
mix_buffers mixes m = get_or mixes (m * 5 + 1) 0

abbrev pub mix_destination : List ℕ → ℕ → ℕ
mix_destination mixes m = get_or mixes (m * 5 + 2) 0

abbrev pub mix_splitter : List ℕ → ℕ → ℕ
mix_splitter mixes m = get_or mixes (m * 5 + 3) 0

abbrev pub mix_offset : List ℕ → ℕ → ℕ
mix_offset mixes m = get_or mixes (m * 5 + 4) 0

-- n mixes: each has at most 24 buffers, and those of the mixes before it come first
pub record Mixes (n : ℕ) (mixes : List ℕ) : Type 0 where
  pub one : 1 ≤ n
  pub few : n ≤ 32
  pub size : length mixes ≡ n * 5
  pub buffers : (m : ℕ) → m < n → mix_buffers mixes m ≤ 24
  pub offsets : (m : ℕ) → m < n → mix_offset mixes m ≤ m * 24

-- ---- splitter s, and destination d of nd, behind ns splitters

abbrev pub list_length : List ℕ → ℕ → ℕ
list_length lists s = get_or lists (s * 129) 0

abbrev pub list_entry : List ℕ → ℕ → ℕ → ℕ
list_entry lists s k = get_or lists (s * 129 + 1 + k) 0

abbrev pub destination_used : ℕ → List ℕ → ℕ → Bool
destination_used ns lists d = not (eqb (get_or lists (ns * 129 + d * 2) 0) 0)

abbrev pub destination_mix : ℕ → List ℕ → ℕ → ℕ
destination_mix ns lists d = get_or lists (ns * 129 + d * 2 + 1) 0

-- `Destination::configured`, of a number that may be no destination's: in use, with a mix that is neither the unused mark 0x7fffffff nor negative
unfoldable pub configured_of : ℕ → ℕ → List ℕ → ℕ → Bool
configured_of ns nd lists d = ltb d nd && (destination_used ns lists d && ltb (destination_mix ns lists d) 0x7fffffff)

-- ns splitters and nd destinations: no list is longer than the destinations are many
pub record Lists (ns nd : ℕ) (lists : List ℕ) : Type 0 where
  pub few : ns ≤ 32
  pub some : nd ≤ 128
  pub size : length lists ≡ ns * 129 + nd * 2
  pub lengths : (s : ℕ) → s < ns → list_length lists s ≤ nd
