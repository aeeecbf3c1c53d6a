-- The rows of a kind as an update leaves them, taken from the lists that hold the whole state. Definitions only.
use Rattle.std.specs.Prelude.{List, ℕ, ◌+◌, ◌*◌, Float}
use Rattle.rows.specs.Rows.{part}
use Rattle.desk.specs.Channels.{channels_of}
use Rattle.desk.specs.Sinks.{SinkRows, sink_rows, sinks_of}
use Rattle.desk_mixes.specs.Mixes.{MixRows, mix_rows, mixes_of}
use Rattle.splitters.specs.Destinations.{Left}
use Rattle.splitters.specs.Section.{splitters_of}

-- n channel resources from c on
abbrev pub resources_at : List ℕ → ℕ → ℕ → List Float → List Float
resources_at d n c floats = channels_of d n (part (n * 48) c floats)

-- n mixes, n sinks, and ns splitters with nd destinations: their words begin at a, their floats at c
abbrev pub mix_rows_at : ℕ → List ℕ → ℕ → ℕ → List ℕ → ℕ → List Float → MixRows
mix_rows_at revision d n a words c floats = mixes_of revision d n (mix_rows (part (n * 5) a words) (part (n * 577) c floats))

abbrev pub sink_rows_at : List ℕ → ℕ → ℕ → List ℕ → ℕ → List Float → SinkRows
sink_rows_at d n a words c floats = sinks_of d n (sink_rows (part (n * 10) a words) (part (n * 4) c floats))

abbrev pub list_rows_at : List ℕ → ℕ → ℕ → ℕ → List ℕ → ℕ → List Float → Left
list_rows_at d ns nd a words c floats = splitters_of ns nd d (part (ns * 129 + nd * 2) a words) (part (nd * 48) c floats)
