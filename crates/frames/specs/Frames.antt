-- The frames of a render (mixer.rs `write_sink`): those of the first used device sink, or zeros. Definitions only.
-- A sink has 10 words (used, device, how many inputs, six inputs, downmix given) and 4 floats (the given factors).
use Rattle.std.specs.Prelude.{◌≡◌, Bool, true, false, cond, not, ◌&&◌, List, [], ◌∷◌, ℕ, zero, suc, ◌+◌, ◌*◌, ◌≤◌, eqb, length, get_or, replicate, Float, Option, None, Some}
use Rattle.std.specs.Option.{unwrap_or, option_map}
use Rattle.std.specs.Float.{nan}
use Rattle.floats.specs.Defs.{zero32}
use Rattle.rows.specs.Rows.{part}
use Rattle.sink.specs.Sink.{sink_of}

-- sink k is in use and a device
unfoldable pub plays_at : List ℕ → ℕ → Bool
plays_at words k = not (eqb (get_or words (k * 10) 0) 0) && not (eqb (get_or words (k * 10 + 1) 0) 0)

-- the first that plays of the `left` sinks from k on
unfoldable pub first_from : List ℕ → ℕ → ℕ → Option ℕ
first_from words zero k = None
first_from words (suc left) k = cond (plays_at words k) (Some k) (first_from words left (k + 1))

-- `sink.downmix`: whether factors are given is a word of its own
unfoldable pub downmix_of : Bool → List Float → ℕ → Option (List Float)
downmix_of false floats k = None
downmix_of true floats k =
    Some (get_or floats (k * 4) nan ∷ get_or floats (k * 4 + 1) nan ∷ get_or floats (k * 4 + 2) nan ∷ get_or floats (k * 4 + 3) nan ∷ [])

unfoldable pub downmix_at : List ℕ → List Float → ℕ → Option (List Float)
downmix_at words floats k = downmix_of (not (eqb (get_or words (k * 10 + 9) 0) 0)) floats k

-- the frames of sink k: n samples, mix 0's buffers from `offset` on
unfoldable pub sink_at : List Float → ℕ → ℕ → List ℕ → List Float → ℕ → List Float
sink_at buffers n offset words floats k = sink_of buffers n offset (part 6 (k * 10 + 3) words) (get_or words (k * 10 + 2) 0) (downmix_at words floats k)

-- the frames of a desk with `sinks` sinks
unfoldable pub frames_of : List Float → ℕ → ℕ → List ℕ → List Float → ℕ → List Float
frames_of buffers n offset words floats sinks =
    unwrap_or (option_map (sink_at buffers n offset words floats) (first_from words sinks 0)) (replicate (2 * n) zero32)

-- at most 8 sinks
pub record Sinks (sinks : ℕ) (words : List ℕ) (floats : List Float) : Type 0 where
  pub few : sinks ≤ 8
  pub words_size : length words ≡ sinks * 10
  pub floats_size : length floats ≡ sinks * 4
