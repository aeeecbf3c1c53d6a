-- The rows that an update's voices are made of: those of the state once the channel resources are stored. Definitions only.
use Rattle.std.specs.Prelude.{List, ℕ, ◌*◌}
use Rattle.rows.specs.Rows.{part}
use Rattle.params.specs.declared.params.Params.{Params}
use Rattle.params.specs.Sections.{resources_section}
use Rattle.state.specs.State.{State}
use Rattle.voices.specs.Voices.{VoiceRows, rows_of}
use Rattle.updates.specs.Update.{with_resources}

-- the rows of n voices
abbrev pub rows_in : ℕ → State → VoiceRows
rows_in n st = rows_of (part (n * 58) 10 st.words) (part (n * 14) 1 st.longs) (part (n * 4) 0 st.floats) st.contexts st.history

abbrev pub rows_before : Params → List ℕ → State → VoiceRows
rows_before p input st = rows_in p.voices (with_resources p (resources_section input) st)
