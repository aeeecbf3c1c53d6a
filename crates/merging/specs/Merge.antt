-- A title's update block t and a click track's block c as one block, for n voices (document 02, L8). Definitions only.
use Rattle.std.specs.Prelude.{Bool, false, cond, not, ◌&&◌, ◌||◌, List, [], ◌++◌, ℕ, zero, suc, ◌+◌, ◌*◌, eqb, get_or}
use Rattle.rows.specs.Rows.{put}
use Rattle.rows.specs.Tables.{table, joined}
use Rattle.row_tests.specs.Tests.{all}
use Rattle.fields.specs.Fields.{bytes_of, rest_of}
use Rattle.params.specs.declared.sections.Sections.{Sections}
use Rattle.params.specs.Sections.{sections_of, voices_section, resources_section}
use Rattle.voice_records.specs.Record.{record_channels, id_at, record_used}
use Rattle.voices.specs.Voices.{record_at}

-- bytes of a block's header, of a channel resource and of a voice's record
abbrev pub block_header : ℕ
block_header = 0x40

abbrev pub resource_size : ℕ
resource_size = 0x70

abbrev pub record_size : ℕ
record_size = 0x170

-- w bytes from a place on, missing ones as 0
unfoldable pub padded : ℕ → ℕ → List ℕ → List ℕ
padded w from s = table w (λ i. get_or s (from + i) 0)

-- ---- voices: d and e are the voices' sections of two blocks

-- record k of a section is whole and in use
abbrev pub used_at : List ℕ → ℕ → Bool
used_at d k = record_used (record_at d k)

-- question 16: no voice is in use in both
unfoldable pub voices_apart : ℕ → List ℕ → List ℕ → Bool
voices_apart n d e = all n (λ k. not (used_at d k && used_at e k))

-- the record in use, none where there is none
unfoldable pub chosen_record : List ℕ → List ℕ → ℕ → List ℕ
chosen_record d e k = cond (used_at d k) (record_at d k) (cond (used_at e k) (record_at e k) [])

unfoldable pub merged_record : List ℕ → List ℕ → ℕ → List ℕ
merged_record t c k = padded record_size 0 (chosen_record (voices_section t) (voices_section c) k)

-- ---- channel resources

-- some number below n passes
unfoldable pub any_below : ℕ → (ℕ → Bool) → Bool
any_below zero f = false
any_below (suc n) f = any_below n f || f n

-- a voice with this record names resource j: one of the channels that it plays does
unfoldable pub record_names : ℕ → List ℕ → ℕ → Bool
record_names n e j = any_below (record_channels e) (λ c. eqb (id_at n e c) j)

-- a voice in use of the section does
unfoldable pub names : ℕ → List ℕ → ℕ → Bool
names n d j = any_below n (λ k. used_at d k && record_names n (record_at d k) j)

-- question 17: no resource is named from both
unfoldable pub channels_apart : ℕ → List ℕ → List ℕ → Bool
channels_apart n d e = all n (λ j. not (names n d j && names n e j))

-- resource j of the click's section where it is named from there, else of the title's
unfoldable pub chosen_resource : Bool → List ℕ → List ℕ → ℕ → List ℕ
chosen_resource named title click j = padded resource_size (j * resource_size) (cond named click title)

unfoldable pub merged_resource : ℕ → List ℕ → List ℕ → ℕ → List ℕ
merged_resource n t c j = chosen_resource (names n (voices_section c) j) (resources_section t) (resources_section c) j

-- ---- the block

-- the title's header, filled up where it is short, and where its sections lie by it
unfoldable pub title_header : List ℕ → List ℕ
title_header t = padded block_header 0 t

abbrev pub title_sections : List ℕ → Sections
title_sections t = sections_of (title_header t)

-- as it is written: with the sizes of n records and n channel resources
unfoldable pub written_header : ℕ → List ℕ → List ℕ
written_header n t = put (put (title_header t) 0x0c (bytes_of 4 (n * record_size))) 0x10 (bytes_of 4 (n * resource_size))

-- behaviour and pools
unfoldable pub merged_pools : List ℕ → List ℕ
merged_pools t = padded ((title_sections t).behavior_size + (title_sections t).pools_size) block_header t

-- every byte from the effects section on
abbrev pub behind_voices : List ℕ → List ℕ
behind_voices t = rest_of t (title_sections t).effects_at

unfoldable pub merged_block : ℕ → List ℕ → List ℕ → List ℕ
merged_block n t c =
    written_header n t ++ merged_pools t ++ joined n (merged_resource n t c) ++ joined n (merged_record t c) ++ behind_voices t
