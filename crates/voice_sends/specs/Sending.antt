-- The last part of mixer.rs `render_voice`: a voice's ramp, and its sends to one mix or by a splitter to several. Definitions only.
-- A row of gains has 48 floats: 24 that it goes to (a resource's mix, a destination's volumes), then 24 that it comes from (previous).
use Rattle.std.specs.Prelude.{cond, ◌&&◌, List, ℕ, ◌+◌, ◌*◌, ◌%◌, ◌≤◌, ◌<◌, ltb, eqb, length, get_or, Float}
use Rattle.rows.specs.Rows.{put, part}
use Rattle.rows.specs.Folds.{up_to}
use Rattle.gain.specs.Gain.{ramp_of}
use Rattle.sends.specs.Sends.{spread, gain_at}
use Rattle.desk_rows.specs.DeskRows.{mix_buffers, mix_offset, list_length, list_entry, destination_mix, configured_of}

-- ---- what a voice has

-- its six channel ids, each the number of one of nc resources
pub record Ids (nc : ℕ) (ids : List ℕ) : Type 0 where
  pub few : nc ≤ 64
  pub each : (k : ℕ) → k < 6 → get_or ids k 0 < nc

-- its channels' rows of n samples, one behind the other
pub record Rowed (n channels : ℕ) (out : List Float) : Type 0 where
  pub some : 1 ≤ n
  pub short : n ≤ 256
  pub one : 1 ≤ channels
  pub few : channels ≤ 6
  pub inside : channels * n ≤ length out

-- ---- its ramp

-- row c of n samples, ramped
unfoldable pub ramped_row : Float → Float → ℕ → ℕ → List Float → List Float
ramped_row from to n c out = put out (c * n) (ramp_of from to (part n (c * n) out))

unfoldable pub ramped_rows : Float → Float → ℕ → ℕ → List Float → List Float
ramped_rows from to n channels out = up_to (ramped_row from to n) channels out

-- ---- its resources

-- row id of the gains comes from where it goes to
unfoldable pub taken : ℕ → List Float → List Float
taken id gains = put gains (id * 48 + 24) (part 24 (id * 48) gains)

-- the resource of each channel: previous := mix
unfoldable pub taken_over : List ℕ → ℕ → List Float → List Float
taken_over ids channels resources = up_to (λ c. taken (get_or ids c 0)) channels resources

-- ---- a send by a row of gains

-- the mix buffers, and the rows of gains that the sends go by
pub record Passing : Type 0 where
  pub buffers : List Float
  pub gains : List Float

abbrev pub passing : List Float → List Float → Passing
passing buffers gains = record { buffers = buffers; gains = gains }

-- row c of the voice's rows to the `count` rows from `offset` on, by row id of the gains, which is then taken
unfoldable pub sent : ℕ → List Float → ℕ → ℕ → ℕ → ℕ → Passing → Passing
sent n out offset count c id st =
    passing
    (spread (gain_at (part 24 (id * 48 + 24) st.gains)) (gain_at (part 24 (id * 48) st.gains)) offset n (part n (c * n) out) count st.buffers)
    (taken id st.gains)

-- ---- to one mix: each channel by its resource; a later channel sees what an earlier one left

unfoldable pub mix_sends : ℕ → List Float → ℕ → List ℕ → ℕ → ℕ → Passing → Passing
mix_sends n out channels ids offset count st = up_to (λ c. sent n out offset count c (get_or ids c 0)) channels st

-- mix m, where it is one of nm
unfoldable pub to_mix : ℕ → List Float → ℕ → List ℕ → List ℕ → ℕ → ℕ → Passing → Passing
to_mix n out channels ids mixes nm m st = cond (ltb m nm) (mix_sends n out channels ids (mix_offset mixes m) (mix_buffers mixes m) st) st

-- ---- by a splitter, to destinations of nd, each with one of nm mixes

module _ (n : ℕ) (out : List Float) (channels : ℕ) (mixes : List ℕ) (nm : ℕ) (lists : List ℕ) (ns nd : ℕ) where
  -- row c by destination d, where that is configured and its mix is there
  unfoldable pub destination_sent : ℕ → ℕ → Passing → Passing
  destination_sent c d st =
      cond (configured_of ns nd lists d && ltb (destination_mix ns lists d) nm)
      (sent n out (mix_offset mixes (destination_mix ns lists d)) (mix_buffers mixes (destination_mix ns lists d)) c d st)
      st

  -- row c by entry k of the list of splitter s, where that is one of channel c's: `skip(c).step_by(channels)`
  unfoldable pub entry_sent : ℕ → ℕ → ℕ → Passing → Passing
  entry_sent s c k st = cond (eqb (k % channels) c) (destination_sent c (list_entry lists s k) st) st

  -- row c by all of the list
  unfoldable pub list_sent : ℕ → ℕ → Passing → Passing
  list_sent s c st = up_to (entry_sent s c) (list_length lists s) st

  unfoldable pub splitter_sends : ℕ → Passing → Passing
  splitter_sends s st = up_to (list_sent s) channels st

  -- splitter s, where it is one of ns
  unfoldable pub by_splitter : ℕ → Passing → Passing
  by_splitter s st = cond (ltb s ns) (splitter_sends s st) st

-- ---- all sends of a voice

pub record Sent : Type 0 where
  pub buffers : List Float
  pub resources : List Float
  pub destinations : List Float

abbrev pub sent_of : List Float → List Float → List Float → Sent
sent_of buffers resources destinations = record { buffers = buffers; resources = resources; destinations = destinations }

abbrev pub with_resources : Sent → Passing → Sent
with_resources st p = sent_of p.buffers p.gains st.destinations

abbrev pub with_destinations : Sent → Passing → Sent
with_destinations st p = sent_of p.buffers st.resources p.gains

-- to its mix, or where that is the unused mark by its splitter
unfoldable pub sends_of : ℕ → List Float → ℕ → List ℕ → ℕ → ℕ → List ℕ → ℕ → List ℕ → ℕ → ℕ → Sent → Sent
sends_of n out channels ids mix splitter mixes nm lists ns nd st =
    cond (eqb mix 0x7fffffff)
    (with_destinations st (by_splitter n out channels mixes nm lists ns nd splitter (passing st.buffers st.destinations)))
    (with_resources st (to_mix n out channels ids mixes nm mix (passing st.buffers st.resources)))
