-- What the sessions that are computed consist of: a few voices, one mix, one sink that plays it, two samples a render. Definitions only.
use Rattle.std.specs.Prelude.{false, List, [], ◌∷◌, ◌++◌, ℕ, ◌+◌, ◌-◌, ◌*◌, ◌^◌, Float, negsuc, length, take, drop, replicate}
use Rattle.std.specs.Float.{fin}
use Rattle.floats.specs.Defs.{zero32}
use Rattle.ranges.specs.Ranges.{Range, range}
use Rattle.fields.specs.Fields.{bytes_of}
use Rattle.params.specs.declared.params.Params.{Params}
use Rattle.state.specs.State.{State, state_of, places_of}
use Rattle.secrecy.specs.Sessions.{Call, update, render}
use Rattle.secrecy.specs.Demand.{begun}

-- ---- bytes by their fields

pub record Field : Type 0 where
  pub at : ℕ
  pub wide : ℕ
  pub value : ℕ

abbrev pub byte : ℕ → ℕ → Field
byte at value = record { at = at; wide = 1; value = value }

abbrev pub word : ℕ → ℕ → Field
word at value = record { at = at; wide = 4; value = value }

abbrev pub long : ℕ → ℕ → Field
long at value = record { at = at; wide = 8; value = value }

-- the bytes from `from` to `size`: fields in rising order, and zeros between them
unfoldable pub laid_from : ℕ → ℕ → List Field → List ℕ
unfolding bytes_of
laid_from from size [] = replicate (size - from) 0
laid_from from size (f ∷ fs) = replicate (f.at - from) 0 ++ (bytes_of f.wide f.value ++ laid_from (f.at + f.wide) size fs)

-- the float 1
abbrev pub one_bits : ℕ
one_bits = 0x3f800000

-- ---- a voice's record

-- "no mix" and "no splitter"
abbrev pub no_mix : ℕ
no_mix = 0x7fffffff

abbrev pub no_splitter : ℕ
no_splitter = 0xffffffff

-- by: marks in use and new, play request, format, channels, buffers queued, data source, mix, splitter, wave records. It has 48 kHz,
-- pitch and volume 1
abbrev pub any_voice : ℕ → ℕ → ℕ → ℕ → ℕ → ℕ → ℕ → ℕ → ℕ → List Field → List Field
any_voice used new play format channels queued source mix splitter waves =
    byte 0x08 new ∷ byte 0x09 used ∷ byte 0x0a play ∷ byte 0x0b format ∷ word 0x0c 48000 ∷ word 0x18 channels ∷ word 0x1c one_bits
    ∷ word 0x20 one_bits ∷ word 0x3c queued ∷ long 0x48 source ∷ word 0x58 mix ∷ word 0x5c splitter ∷ waves

-- started, of one channel, with one buffer queued
abbrev pub voice : ℕ → ℕ → ℕ → ℕ → ℕ → ℕ → List Field → List Field
voice used new format source mix splitter waves = any_voice used new 0 format 1 1 source mix splitter waves

-- in use and new, of 16-bit PCM; the same not in use; and the same not new
abbrev pub new_voice : ℕ → ℕ → ℕ → List Field → List Field
new_voice source mix splitter waves = voice 1 1 2 source mix splitter waves

abbrev pub unused_voice : ℕ → ℕ → ℕ → List Field → List Field
unused_voice source mix splitter waves = voice 0 1 2 source mix splitter waves

abbrev pub old_voice : ℕ → ℕ → ℕ → List Field → List Field
old_voice source mix splitter waves = voice 1 0 2 source mix splitter waves

-- in use and new, of ADPCM
abbrev pub new_adpcm : ℕ → ℕ → ℕ → List Field → List Field
new_adpcm source mix splitter waves = voice 1 1 6 source mix splitter waves

-- wave record b: address, size in bytes, end in samples, context
abbrev pub wave : ℕ → ℕ → ℕ → ℕ → ℕ → List Field
wave b addr size end context =
    let o = 0x60 + b * 0x38 in
    long o addr ∷ long (o + 0x08) size ∷ word (o + 0x14) end ∷ long (o + 0x20) context ∷ []

-- four that were sent before
abbrev pub sent_before : List Field
sent_before = byte 0x7a 1 ∷ byte 0xb2 1 ∷ byte 0xea 1 ∷ byte 0x122 1 ∷ []

-- ---- inputs of updates

-- the records of voices 0, 1, .., one after the other
unfoldable pub records : List (List Field) → List ℕ
unfolding laid_from
records [] = []
records (fields ∷ more) = laid_from 0 0x170 fields ++ records more

-- an input whose section of voices is the first `size` bytes of them, and that has nothing else
unfoldable pub cut_input : ℕ → List (List Field) → List ℕ
unfolding records
cut_input size voices = laid_from 0 0x40 (word 0x0c size ∷ []) ++ take size (records voices)

-- with all of them
unfoldable pub voices_input : List (List Field) → List ℕ
unfolding cut_input
voices_input voices = cut_input (0x170 * length voices) voices

-- the desk: a channel resource whose gain is 1; a mix in use, volume 1, one buffer; a device in use, with that buffer as its one input
unfoldable pub desk_input : List ℕ
unfolding laid_from
desk_input =
    laid_from 0 0x40 (word 0x10 0x70 ∷ word 0x18 0x930 ∷ word 0x1c 0x140 ∷ [])
    ++ (laid_from 0 0x70 (word 0x04 one_bits ∷ [])
    ++ (laid_from 0 0x930 (word 0x00 one_bits ∷ word 0x08 1 ∷ byte 0x0c 1 ∷ word 0x924 no_mix ∷ word 0x928 no_splitter ∷ [])
    ++ laid_from 0 0x140 (byte 0x00 1 ∷ byte 0x01 1 ∷ word 0x120 1 ∷ [])))

-- ---- a session

-- the revision's word: "REV" and a digit
abbrev pub revision : ℕ → ℕ
revision n = 0x30564552 + n * 2 ^ 24

-- parameters for so many voices and effects
abbrev pub params_with : ℕ → ℕ → ℕ → Params
params_with voices effects word = record {
  sample_rate = 48000;
  sample_count = 2;
  mix_buffers = 1;
  sub_mixes = 0;
  voices = voices;
  sinks = 1;
  effects = effects;
  splitters = 0;
  splitter_destinations = 0;
  revision = word;
}

-- without effects
abbrev pub params_for : ℕ → ℕ → Params
params_for voices word = params_with voices 0 word

-- the slices that a session is opened on, whatever they held
unfoldable pub slices_for : ℕ → State
unfolding places_of
slices_for n =
    let at = places_of (params_for n 0) in
    state_of (replicate at.words 7) (replicate at.longs 7) (replicate at.floats zero32) (replicate at.contexts 7)
    (replicate at.history zero32)

-- the state that its open makes, of a revision's word
unfoldable pub start_for : ℕ → ℕ → State
unfolding slices_for
start_for n word = begun (params_for n word) (slices_for n)

-- with one voice
abbrev pub params : ℕ → Params
params word = params_for 1 word

abbrev pub slices : State
slices = slices_for 1

abbrev pub start : ℕ → State
start word = start_for 1 word

-- the updates; a reply is 0x120 bytes and 0x50 for each voice, and from revision 5 0x10 more
unfoldable pub desk : Call
unfolding desk_input
desk = update 0 desk_input (replicate 0x300 0)

-- with the records of voices 0, 1, ..
unfoldable pub updating_all : List (List Field) → Call
unfolding voices_input
updating_all voices = update 0 (voices_input voices) (replicate 0x300 0)

abbrev pub updating : List Field → Call
updating fields = updating_all (fields ∷ [])

-- one that is refused by 6: the reply slice is a byte too short
unfoldable pub refused : List Field → Call
unfolding voices_input
refused fields = update 0 (voices_input (fields ∷ [])) (replicate 0x16f 0)

-- sample memory begins at 0x10000
abbrev pub base : ℕ
base = 0x10000

-- all of it in one range
abbrev pub whole_range : List ℕ → List Range
whole_range m = range base 0 (length m) ∷ []

-- a render of memory in these ranges, and of memory that is one range
unfoldable pub rendering_in : List Range → List ℕ → Call
rendering_in rs m = render rs m (replicate 4 zero32)

unfoldable pub rendering : List ℕ → Call
unfolding rendering_in
rendering m = rendering_in (whole_range m) m

-- two ranges over a slice of 13 bytes: three bytes from `base` on, and five more, which lie before them in the slice; `gap` addresses
-- between the two are in neither
abbrev pub two_ranges : ℕ → List Range
two_ranges gap = range base 9 3 ∷ range (base + 3 + gap) 0 5 ∷ []

-- the slice, by the eight bytes of the ranges in the sequence of their addresses and by what its bytes in no range are: four between the
-- parts and one behind
unfoldable pub laid_apart : List ℕ → ℕ → List ℕ
laid_apart bytes others = drop 3 bytes ++ (replicate 4 others ++ (take 3 bytes ++ (others ∷ [])))

-- one that is refused by 7: the frame slice is a float too short
unfoldable pub refused_render : List ℕ → Call
refused_render m = render (whole_range m) m (replicate 3 zero32)

-- ---- voices that play, and what sample memory has for them

-- four samples of 16 bits from `base` on
abbrev pub pcm_voice : ℕ → Call
pcm_voice mix = updating (new_voice 0 mix no_splitter (wave 0 base 8 4 0))

unfoldable pub pcm : List ℕ → List ℕ
unfolding bytes_of
pcm [] = []
pcm (x ∷ xs) = bytes_of 2 x ++ pcm xs

-- four samples in the two ranges, of which the second sample has a byte in each: by what its high byte adds to it, the last sample and the
-- bytes in no range
abbrev pub memory_apart : ℕ → ℕ → ℕ → List ℕ
memory_apart high last others = laid_apart (pcm (1 ∷ (3 + high) ∷ 5 ∷ last ∷ [])) others

-- the same voice later: not new, and its buffers were sent before
abbrev pub pcm_later : ℕ → Call
pcm_later mix = updating (old_voice 0 mix no_splitter sent_before)

-- a frame of ADPCM at base + 40, its coefficients at `base`, its context at base + 32
abbrev pub adpcm_voice : ℕ → Call
adpcm_voice mix = updating (new_adpcm base mix no_splitter (wave 0 (base + 40) 8 14 (base + 32)))

-- the high byte of the first coefficient, the low byte of the context's last sample, and the first two nibbles
unfoldable pub adpcm : ℕ → ℕ → ℕ → List ℕ
unfolding laid_from
adpcm coefficient last nibbles = laid_from 0 48 (byte 1 coefficient ∷ byte 34 last ∷ byte 41 nibbles ∷ [])

-- ---- frames

-- of an odd sample n: n / 32768, left and right
abbrev pub frame : ℕ → List Float
frame n = fin false n (negsuc 14) ∷ fin false n (negsuc 14) ∷ []

abbrev pub silence : List Float
silence = zero32 ∷ zero32 ∷ []
