-- The reply of an update (mod.rs `Renderer::update`): its bytes, section by section. Assumes nothing.
use Rattle.std.specs.Prelude.{cond, List, [], ◌∷◌, ◌++◌, ℕ, ◌+◌, ◌*◌, leb}
use Rattle.rows.specs.Rows.{part}
use Rattle.fields.specs.Fields.{section_of, bytes_of}
use Rattle.params.specs.declared.params.Params.{Params}
use Rattle.params.specs.Sizes.{revision_of, pools_of, info_bytes, effects_bytes, reply_length}
use Rattle.params.specs.Sections.{sections_of}
use Rattle.reply_sections.specs.Bytes.{zeros, words_bytes}
use Rattle.reply_sections.specs.Pools.{pools_bytes}
use Rattle.reply_sections.specs.Voices.{voices_bytes}
use Rattle.reply_sections.specs.Effects.{effect_rows}

-- ---- the header: sixteen words

-- the revision, then the sections' sizes: behaviour, pools, voices, effects, sinks, performance, render info; last the total
abbrev pub header_from : Params → ℕ → ℕ → ℕ → ℕ → List ℕ
header_from p pools effects info total =
    p.revision
    ∷ 0xb0
    ∷ pools * 0x10
    ∷ p.voices * 0x10
    ∷ 0
    ∷ effects
    ∷ 0
    ∷ p.sinks * 0x20
    ∷ 0x10
    ∷ 0
    ∷ info
    ∷ 0
    ∷ 0
    ∷ 0
    ∷ 0
    ∷ total
    ∷ []

-- the header of a reply to an expected size
unfoldable pub header_of : Params → ℕ → List ℕ
header_of p expected = words_bytes (header_from p (pools_of p) (effects_bytes p expected) (info_bytes p) (reply_length p expected))

-- ---- the pools and the effects in the input

-- the pools of a reply, by the input's sections
unfoldable pub pools_of_input : Params → List ℕ → List ℕ
pools_of_input p input = pools_bytes (pools_of p) (sections_of input).behavior_size (sections_of input).pools_size input

-- the effects in the input
unfoldable pub effects_section : List ℕ → List ℕ
effects_section input = section_of input (sections_of input).effects_at (sections_of input).effects_size

-- ---- sinks, performance and behaviour: zeros

unfoldable pub rest_bytes : Params → List ℕ
rest_bytes p = zeros (p.sinks * 0x20) ++ zeros 0x10 ++ zeros 0xb0

-- ---- render info, from revision 5: the elapsed renders

unfoldable pub info_of : Params → ℕ → List ℕ
info_of p elapsed = cond (leb 5 (revision_of p)) (bytes_of 8 elapsed ++ zeros 8) []

-- ---- the reply

-- header, pools and voices, and how many bytes they are
unfoldable pub front_of : Params → ℕ → List ℕ → List ℕ → List ℕ → List ℕ
front_of p expected input words longs = header_of p expected ++ pools_of_input p input ++ voices_bytes p.voices words longs

abbrev pub front_bytes : Params → ℕ
front_bytes p = 0x40 + pools_of p * 0x10 + p.voices * 0x10

-- effects, then sinks, performance and behaviour, then render info
unfoldable pub back_of : Params → ℕ → List ℕ → ℕ → List ℕ
back_of p bytes section elapsed = effect_rows p.effects bytes section ++ rest_bytes p ++ info_of p elapsed

-- of the parameters, the expected size, the input, the elapsed renders, and the voices' words and longs after the update
unfoldable pub reply_of : Params → ℕ → List ℕ → ℕ → List ℕ → List ℕ → List ℕ
reply_of p expected input elapsed words longs = front_of p expected input words longs ++ back_of p (effects_bytes p expected) (effects_section input) elapsed

-- voice k's 16 bytes of a reply
abbrev pub status_place : Params → ℕ → ℕ
status_place p k = 0x40 + pools_of p * 0x10 + k * 0x10

abbrev pub status_in : Params → ℕ → List ℕ → List ℕ
status_in p k reply = part 0x10 (status_place p k) reply
