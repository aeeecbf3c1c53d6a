-- The bytes of sample memory that a voice declares, and when it is routed, as docs/QUESTIONS.md words it. Definitions only.
use Rattle.std.specs.Prelude.{◌≡◌, Bool, false, cond, ◌||◌, ℕ, zero, suc, ◌+◌, ◌^◌, ◌%◌, ◌<◌}
use mathlib.Core.List.{List, [], ◌∷◌, ◌++◌, Memᴰ}
use Rattle.ranges.specs.Ranges.{Range}
use Rattle.fields.specs.Fields.{field_at}
use Rattle.state.specs.State.{State, params_in}
use Rattle.voice_records.specs.Record.{record_used, wave_record}
use Rattle.voices.specs.Voices.{voice_record}
use Rattle.state_voices.specs.StateVoices.{voice_in}
use Rattle.render.specs.Render.{render_of}
use Rattle.alike.specs.Reads.{Span, span, voice_reads}
use Rattle.update_alike.specs.Routes.{routes}
use Rattle.secrecy.specs.Sessions.{Call, Shape, updates, renders, shape, after, succeeds}

-- ---- spans of bytes

-- address x is one of the span's, going round at 2 ^ 64
abbrev pub Within : Span → ℕ → Type 0
Within s x = (j : ℕ) × (j < s.long) × (x ≡ (s.at + j) % 2 ^ 64)

abbrev pub Covered : List Span → ℕ → Type 0
Covered spans x = (s : Span) × Memᴰ s spans × Within s x

-- ---- what a voice declares

-- by wave record b of a voice's record: its samples, and its context
unfoldable pub wave_spans : List ℕ → ℕ → List Span
wave_spans e b = span (field_at 8 (wave_record e b) 0x00) (field_at 8 (wave_record e b) 0x08) ∷ span (field_at 8 (wave_record e b) 0x20) 6 ∷ []

-- by its record: its data source, and its four wave records
unfoldable pub record_spans : List ℕ → List Span
unfolding wave_spans
record_spans e = span (field_at 8 e 0x48) 32 ∷ (wave_spans e 0 ++ (wave_spans e 1 ++ (wave_spans e 2 ++ wave_spans e 3)))

-- by the record in an update's input, where that is in use
unfoldable pub input_spans : List ℕ → ℕ → List Span
unfolding record_spans record_used
input_spans input k = cond (record_used (voice_record input k)) (record_spans (voice_record input k)) []

-- the reads of voice k at a render of memory in these ranges
unfoldable pub reads : State → List Range → ℕ → List Span
unfolding voice_reads render_of
reads st rs k = voice_reads (render_of (params_in st) rs) (voice_in k st)

-- by a call, as if it succeeds: no sample byte takes part
abbrev pub spans_by : State → Shape → ℕ → List Span
spans_by st (updates expected input size) k = input_spans input k
spans_by st (renders rs size wide) k = reads st rs k

-- by a call: one that is refused declares nothing
abbrev pub declares : State → Call → ℕ → List Span
declares st c k = cond (succeeds st c) (spans_by st (shape c) k) []

-- by call r: what the calls before it declare, and itself
abbrev pub declared : State → List Call → ℕ → ℕ → List Span
declared st [] r k = []
declared st (c ∷ cs) zero k = declares st c k
declared st (c ∷ cs) (suc r) k = declares st c k ++ declared (after st c) cs r k

-- ---- routed

-- by a call, as if it succeeds
abbrev pub routes_by : State → Shape → ℕ → Bool
routes_by st (updates expected input size) k = routes (params_in st) input k
routes_by st (renders rs size wide) k = false

-- by a call: one that is refused routes nothing
abbrev pub routing : State → Call → ℕ → Bool
routing st c k = cond (succeeds st c) (routes_by st (shape c) k) false

-- at any time before call r
abbrev pub routed : State → List Call → ℕ → ℕ → Bool
routed st [] r k = false
routed st (c ∷ cs) zero k = false
routed st (c ∷ cs) (suc r) k = routing st c k || routed (after st c) cs r k
