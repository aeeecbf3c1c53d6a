-- Small merges, computed: two voices, one from each block; and each refusal. Assumes nothing.
use mathlib.Core.Path.{◌≡◌, refl}
use mathlib.Core.List.{List, [], ◌∷◌, ◌++◌}
use Prim.Native.Nat.{ℕ, ◌-◌, ◌*◌}
use lib.ListN.{replicate}
use Rattle.rows.specs.Rows.{put}
use Rattle.rows.specs.Tables.{table, joined}
use Rattle.row_tests.specs.Tests.{every, all}
use Rattle.fields.specs.Fields.{le, field_at, flag_at, positive, section_of, rest_of, bytes_of}
use Rattle.params.specs.declared.params.Params.{Params}
use Rattle.params.specs.Sections.{sections_of}
use Rattle.whole.specs.Counts.{counts_allowed}
use Rattle.voice_records.specs.Record.{record_used, channel_id, id_at}
use Rattle.merging.specs.Merge.{block_header, record_size, resource_size, padded, voices_apart, chosen_record, merged_record, any_below}
use Rattle.merging.specs.Merge.{record_names, names, channels_apart, chosen_resource, merged_resource, title_header, written_header}
use Rattle.merging.specs.Merge.{merged_pools, merged_block}
use Rattle.merging.specs.Answer.{MergeOutcome, merge_left, merge_done, merge_call}

-- ---- parameters and blocks

-- for so many voices
abbrev params_of_voices : ℕ → Params
params_of_voices n = record {
  sample_rate = 48000;
  sample_count = 160;
  mix_buffers = 1;
  sub_mixes = 0;
  voices = n;
  sinks = 1;
  effects = 0;
  splitters = 0;
  splitter_destinations = 0;
  revision = 0x30564552;
}

-- with a number of four bytes at a place
abbrev with_word : ℕ → ℕ → List ℕ → List ℕ
with_word o v d = put d o (bytes_of 4 v)

-- a header with the sizes of the records and of the channel resources
abbrev header : ℕ → ℕ → List ℕ
header records resources = with_word 0x10 resources (with_word 0x0c records (replicate block_header 0))

-- a voice's record: not in use, and in use with one channel, by its number
abbrev unused_record : List ℕ
unused_record = replicate record_size 0

abbrev used_record : ℕ → List ℕ
used_record id = with_word 0x140 id (with_word 0x18 1 (put unused_record 0x09 (1 ∷ [])))

-- a channel resource of one byte over and over
abbrev resource : ℕ → List ℕ
resource x = replicate resource_size x

-- a block for two voices: its resources, its records and what stands behind them
abbrev block_of_two : List ℕ → List ℕ → List ℕ → List ℕ
block_of_two resources records rest = header (2 * record_size) (2 * resource_size) ++ resources ++ records ++ rest

-- voice 0 is the title's, with two bytes behind the voices; voice 1 is the click's; each has a channel by its number
abbrev title_block : ℕ → List ℕ
title_block id = block_of_two (resource 1 ++ resource 2) (used_record id ++ unused_record) (5 ∷ 6 ∷ [])

abbrev click_block : ℕ → List ℕ
click_block id = block_of_two (resource 3 ++ resource 4) (unused_record ++ used_record id) (7 ∷ [])

-- the same click with a section that cuts its last record by a byte
abbrev cut_block : ℕ → List ℕ
cut_block id = header (2 * record_size - 1) (2 * resource_size) ++ resource 3 ++ resource 4 ++ unused_record ++ used_record id

-- a title of six bytes: the last two are half of its behaviour size
abbrev six_bytes : List ℕ
six_bytes = 1 ∷ 2 ∷ 3 ∷ 4 ∷ 2 ∷ 0 ∷ []

-- ---- merges, each into an output of so many nines

abbrev merging : ℕ → List ℕ → List ℕ → ℕ → MergeOutcome
merging n t c room = merge_call (params_of_voices n) t c (replicate room 9)

abbrev refusing : ℕ → ℕ → MergeOutcome
refusing number room = merge_left number 0 (replicate room 9)

-- two voices, one from each block, each with its own resource; both blocks with voice 0 in use; a channel named from both, by a number past
-- the last and by one below 0; an output a byte too short; two refusals at once, of which the first counts, and 65 voices; a record that is
-- cut short, which is none; six bytes, of which the half size counts; blocks with voices where there are none; and empty blocks
pub small_merges : (merging 2 (title_block 0) (click_block 1) 0x404
    ≡ merge_left 0 0x402 (block_of_two (resource 1 ++ resource 4) (used_record 0 ++ used_record 1) (5 ∷ 6 ∷ []) ++ (9 ∷ 9 ∷ [])))
    × (merging 2 (title_block 0) (title_block 1) 0x404 ≡ refusing 16 0x404)
    × (merging 2 (title_block 1) (click_block 7) 0x404 ≡ refusing 17 0x404)
    × (merging 2 (title_block 0) (click_block 0x80000001) 0x404 ≡ refusing 17 0x404)
    × (merging 2 (title_block 0) (click_block 1) 0x401 ≡ refusing 18 0x401)
    × (merging 2 (title_block 0) (title_block 0) 0 ≡ refusing 16 0)
    × (merging 2 (title_block 1) (click_block 7) 0 ≡ refusing 17 0)
    × (merging 65 (title_block 0) (title_block 0) 0 ≡ refusing 2 0)
    × (merging 2 (title_block 0) (cut_block 0) 0x402
    ≡ merge_left 0 0x402 (block_of_two (resource 1 ++ resource 2) (used_record 0 ++ unused_record) (5 ∷ 6 ∷ [])))
    × (merging 0 six_bytes [] 0x42 ≡ merge_left 0 0x42 (six_bytes ++ replicate 60 0))
    × (merging 0 (title_block 0) (title_block 0) 0x42 ≡ merge_left 0 0x42 (replicate 0x40 0 ++ (5 ∷ 6 ∷ [])))
    × (merging 0 [] [] 0x40 ≡ merge_left 0 0x40 (replicate 0x40 0))
unfolding merge_call merge_done counts_allowed every voices_apart all channels_apart names record_names any_below id_at channel_id positive
    record_used flag_at field_at le section_of sections_of merged_block written_header title_header merged_pools merged_resource chosen_resource
    merged_record chosen_record padded table joined put bytes_of rest_of
small_merges = (refl, refl, refl, refl, refl, refl, refl, refl, refl, refl, refl, refl)
