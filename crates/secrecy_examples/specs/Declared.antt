-- What a voice declares, computed on sessions: each list whole. Assumes nothing.
use Rattle.std.specs.Prelude.{◌≡◌, refl, List, [], ◌∷◌, ◌++◌, ℕ, ◌+◌, ◌-◌, ◌^◌, replicate}
use Rattle.std.proofs.Common.{arith}
use Rattle.alike.specs.Reads.{Span, span}
use Rattle.secrecy.specs.Sessions.{Call, render}
use Rattle.secrecy.specs.Declared.{Within, declared}
use Rattle.secrecy.specs.Computing.{computing}
use Rattle.secrecy.specs.Inputs.{Field, no_mix, no_splitter, new_voice, unused_voice, wave, revision, start, start_for, updating, updating_all}
use Rattle.secrecy.specs.Inputs.{refused, base, whole_range, rendering, pcm_voice, pcm_later, adpcm_voice}

-- what the voice has declared by call r
abbrev pub by : ℕ → List Call → List Span
by r calls = declared (start (revision 2)) calls r 0

-- ---- by updates

-- four wave records, each with an address, a size and a context of its own; the last goes round at 2 ^ 64
abbrev pub four_waves : List Field
four_waves = wave 0 0x20000 8 4 0x30000 ++ (wave 1 0x21000 6 2 0x31000 ++ (wave 2 0x22000 4 1 0x32000 ++ wave 3 (2 ^ 64 - 1) 2 1 0x33000))

abbrev pub four_spans : List Span
four_spans =
    span 0x10 32
    ∷ span 0x20000 8
    ∷ span 0x30000 6
    ∷ span 0x21000 6
    ∷ span 0x31000 6
    ∷ span 0x22000 4
    ∷ span 0x32000 6
    ∷ span (2 ^ 64 - 1) 2
    ∷ span 0x33000 6
    ∷ []

-- by a record whose wave records but the first are zeros
abbrev pub spans_of : ℕ → ℕ → ℕ → ℕ → List Span
spans_of source addr size context =
    span source 32 ∷ span addr size ∷ span context 6 ∷ span 0 0 ∷ span 0 6 ∷ span 0 0 ∷ span 0 6 ∷ span 0 0 ∷ span 0 6 ∷ []

-- by a record in use, also of a voice that is not routed
pub used : by 0 (updating (new_voice 0x10 no_mix no_splitter four_waves) ∷ []) ≡ four_spans
unfolding computing start_for updating_all
used = refl

-- a later record adds to it
pub twice : by 1 (updating (new_voice 0x10 no_mix no_splitter four_waves) ∷ pcm_later 0 ∷ []) ≡ four_spans ++ spans_of 0 0 0 0
unfolding computing start_for updating_all
twice = refl

-- by a record that is not in use, and by an update that is refused
pub none : (by 0 (updating (unused_voice 0x10 0 no_splitter four_waves) ∷ []) ≡ []) × (by 0 (refused (new_voice 0x10 0 no_splitter four_waves) ∷ []) ≡ [])
unfolding computing start_for updating_all refused
none = (refl, refl)

-- addresses go round
pub around : Within (span (2 ^ 64 - 1) 2) 0
around = (1, omega arith, refl)

-- ---- by renders, of two samples each

-- the record of the voice with PCM, and of the one with ADPCM
abbrev pub pcm_spans : List Span
pcm_spans = spans_of 0 base 8 0

abbrev pub adpcm_spans : List Span
adpcm_spans = spans_of base (base + 40) 8 (base + 32)

abbrev pub pcm_render : Call
pcm_render = rendering (replicate 8 0)

abbrev pub adpcm_render : Call
adpcm_render = rendering (replicate 48 0)

-- four samples of 16 bits: two, then two, then none
pub pcm_reads : (by 1 (pcm_voice 0 ∷ pcm_render ∷ []) ≡ pcm_spans ++ (span base 4 ∷ []))
    × (by 2 (pcm_voice 0 ∷ pcm_render ∷ pcm_render ∷ []) ≡ pcm_spans ++ (span base 4 ∷ span (base + 4) 4 ∷ []))
    × (by 3 (pcm_voice 0 ∷ pcm_render ∷ pcm_render ∷ pcm_render ∷ []) ≡ pcm_spans ++ (span base 4 ∷ span (base + 4) 4 ∷ []))
unfolding computing start_for updating_all rendering
pcm_reads = (refl, refl, refl)

-- a voice that is not routed reads too
pub unrouted_reads : by 1 (pcm_voice no_mix ∷ pcm_render ∷ []) ≡ pcm_spans ++ (span base 4 ∷ [])
unfolding computing start_for updating_all rendering
unrouted_reads = refl

-- a read that fails, and a render that is refused
pub no_reads : (by 1 (pcm_voice 0 ∷ rendering (replicate 3 0) ∷ []) ≡ pcm_spans)
    × (by 1 (pcm_voice 0 ∷ render (whole_range (replicate 8 0)) (replicate 8 0) [] ∷ []) ≡ pcm_spans)
unfolding computing start_for updating_all rendering
no_reads = (refl, refl)

-- ADPCM: coefficients, context and samples; then coefficients and samples, since the voice has its context
pub adpcm_reads : (by 1 (adpcm_voice 0 ∷ adpcm_render ∷ []) ≡ adpcm_spans ++ (span base 32 ∷ span (base + 32) 6 ∷ span (base + 40) 2 ∷ []))
    × (by 2 (adpcm_voice 0 ∷ adpcm_render ∷ adpcm_render ∷ [])
    ≡ adpcm_spans ++ (span base 32 ∷ span (base + 32) 6 ∷ span (base + 40) 2 ∷ span base 32 ∷ span (base + 42) 1 ∷ []))
unfolding computing start_for updating_all rendering
adpcm_reads = (refl, refl)
