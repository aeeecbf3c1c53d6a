-- When a voice's words say that a turn leaves its rows as they are. Definitions only.
use Rattle.std.specs.Prelude.{◌≡◌, ◌⊎◌, List, ℕ, ◌+◌, ◌*◌, ◌≤◌, ◌<◌, get_or}

-- ---- words that are as a voice stores them: each flag is 0 or 1, and the play mark one of four

-- the flags of the wave buffer whose words begin at a place
pub record StoredWave (w : List ℕ) (at : ℕ) : Type 0 where
  pub looping : get_or w (at + 2) 0 ≤ 1
  pub end_of_stream : get_or w (at + 3) 0 ≤ 1
  pub pending : get_or w (at + 7) 0 ≤ 1

-- four wave buffers from a place on
abbrev pub StoredWaves : List ℕ → ℕ → Type 0
StoredWaves w at = (b : ℕ) → b < 4 → StoredWave w (at + b * 8)

-- four flags from a place on
abbrev pub StoredFlags : List ℕ → ℕ → Type 0
StoredFlags w at = (k : ℕ) → k < 4 → get_or w (at + k) 0 ≤ 1

-- a voice's words
pub record StoredRow (w : List ℕ) : Type 0 where
  pub used : get_or w 0 0 ≤ 1
  pub fresh : get_or w 1 0 ≤ 1
  pub play : get_or w 2 0 ≤ 3
  pub valid : StoredFlags w 18
  pub waves : StoredWaves w 26

-- ---- a voice with nothing to do

-- it waits: it is stopped (1) or paused (3), not fresh, and has nothing to flush
pub record WaitingRow (w : List ℕ) : Type 0 where
  pub fresh : get_or w 1 0 ≡ 0
  pub play : (get_or w 2 0 ≡ 1) ⊎ (get_or w 2 0 ≡ 3)
  pub flush : get_or w 8 0 ≡ 0
  pub stored : StoredRow w

-- it is not in use, has nothing queued, or waits
pub data IdleRow (w : List ℕ) : Type 0 where
  unused : get_or w 0 0 ≡ 0 → IdleRow w
  empty : get_or w 6 0 ≡ 0 → IdleRow w
  waiting : WaitingRow w → IdleRow w
