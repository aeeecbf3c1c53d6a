-- How long the pieces of a merged block are. Assumes nothing.
use mathlib.Core.Bool.{Bool}
use mathlib.Core.Path.{◌≡◌, ◌∙◌}
use mathlib.Core.List.{List}
use Prim.Native.Nat.{ℕ, ◌+◌, ◌*◌, ◌≤◌}
use native.Mathlib.Omega.{arith}
use lib.ListN.{length, length-append, length-drop}
use Rattle.rows.specs.Rows.{put, length_put}
use Rattle.rows.specs.Tables.{joined, length_table, length_joined}
use Rattle.fields.specs.Fields.{bytes_of, rest_of}
use Rattle.fields.specs.Writes.{length_bytes}
use Rattle.params.specs.Sections.{sections_of}
use Rattle.merging.specs.Merge.{resource_size, record_size, block_header, padded, merged_record, chosen_resource, merged_resource}
use Rattle.merging.specs.Merge.{title_header, title_sections, written_header, merged_pools, behind_voices, merged_block}

pub length_padded : (w from : ℕ) (s : List ℕ) → length (padded w from s) ≡ w
unfolding padded
length_padded w from s = length_table w _

pub length_record : (t c : List ℕ) (k : ℕ) → length (merged_record t c k) ≡ record_size
unfolding merged_record
length_record t c k = length_padded record_size 0 _

pub length_chosen : (named : Bool) (title click : List ℕ) (j : ℕ) → length (chosen_resource named title click j) ≡ resource_size
unfolding chosen_resource
length_chosen named title click j = length_padded resource_size (j * resource_size) _

pub length_resource : (n : ℕ) (t c : List ℕ) (j : ℕ) → length (merged_resource n t c j) ≡ resource_size
unfolding merged_resource
length_resource n t c j = length_chosen _ _ _ j

pub length_records : (n : ℕ) (t c : List ℕ) → length (joined n (merged_record t c)) ≡ n * record_size
length_records n t c = length_joined record_size n (merged_record t c) (length_record t c)

pub length_resources : (n : ℕ) (t c : List ℕ) → length (joined n (merged_resource n t c)) ≡ n * resource_size
length_resources n t c = length_joined resource_size n (merged_resource n t c) (length_resource n t c)

-- ---- the header

pub length_header : (t : List ℕ) → length (title_header t) ≡ block_header
unfolding title_header
length_header t = length_padded block_header 0 t

-- with a number of four bytes at a place inside
pub length_sized : (h : List ℕ) (o v : ℕ) → length h ≡ block_header → o + 4 ≤ block_header → length (put h o (bytes_of 4 v)) ≡ block_header
length_sized h o v l inside =
    let fits : o + length (bytes_of 4 v) ≤ length h = rw length_bytes (omega arith) in
    length_put h o (bytes_of 4 v) fits ∙ l

pub length_written : (n : ℕ) (t : List ℕ) → length (written_header n t) ≡ block_header
unfolding written_header
length_written n t = length_sized _ 0x10 _ (length_sized _ 0x0c _ (length_header t) (omega arith)) (omega arith)

pub length_pools : (t : List ℕ) → length (merged_pools t) ≡ (title_sections t).behavior_size + (title_sections t).pools_size
unfolding merged_pools
length_pools t = length_padded _ block_header t

-- ---- the block

pub length_merged : (n : ℕ) (t c : List ℕ)
    → length (merged_block n t c)
    ≡ block_header
    + ((title_sections t).behavior_size + (title_sections t).pools_size)
    + n * resource_size
    + n * record_size
    + length (behind_voices t)
unfolding merged_block
length_merged n t c =
    rw (length-append, length-append, length-append, length-append, length_written, length_pools, length_resources, length_records)

-- where the title's header, behaviour and pools lie inside it, it takes the title's length and a resource and a record for each voice
pub room_enough : (n : ℕ) (t c : List ℕ) → (title_sections t).resources_at ≤ length t
    → length (merged_block n t c) ≤ length t + n * (resource_size + record_size)
unfolding rest_of sections_of
room_enough n t c inside = omega (arith, length_merged n t c, length-drop (title_sections t).effects_at t)
