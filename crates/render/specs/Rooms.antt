-- The room of a render: what is asked of mix buffers and rows that are lent, and what each room has. Definitions only.
use Rattle.std.specs.Prelude.{◌≡◌, ℕ, zero, suc, ◌*◌, ◌≤◌, List, length, take, replicate, Float}
use Rattle.floats.specs.Defs.{zero32}
use Rattle.params.specs.declared.params.Params.{Params}
use Rattle.voice_turn.specs.Asks.{Room}

-- the floats that the desk's mix buffers take
abbrev pub floats_for : Params → ℕ
floats_for p = p.mix_buffers * p.sample_count

-- mix buffers that are silent as far as the desk's go
pub record Blank (p : Params) (buffers : List Float) : Type 0 where
  pub room : floats_for p ≤ length buffers
  pub zeros : take (floats_for p) buffers ≡ replicate (floats_for p) zero32

-- rows: what the voices are played in, with room for a row of the desk, and what they are heard in
pub record Rows (p : Params) (src out : List Float) : Type 0 where
  pub row : p.sample_count ≤ length src
  pub heard : Room p out

-- the floats and the samples that room k has
unfoldable pub room_floats : ℕ → ℕ
room_floats zero = 256
room_floats (suc zero) = 2560
room_floats (suc (suc zero)) = 6144
room_floats (suc (suc (suc k))) = 24576

unfoldable pub room_samples : ℕ → ℕ
room_samples zero = 16
room_samples (suc k) = 256

-- a desk for which room k is enough
pub record Fits (k : ℕ) (p : Params) : Type 0 where
  pub floats : floats_for p ≤ room_floats k
  pub samples : p.sample_count ≤ room_samples k

-- a room of so many floats, with a row to play from and rows of what is heard, in which such a desk is rendered. None is larger than the
-- last.
pub record Holds (p : Params) (buffers src out : ℕ) : Type 0 where
  pub floats : floats_for p ≤ buffers
  pub row : p.sample_count ≤ src
  pub heard : 6 * p.sample_count ≤ out
  pub few : (buffers ≤ 24576) × (src ≤ 516) × (out ≤ 1536)
