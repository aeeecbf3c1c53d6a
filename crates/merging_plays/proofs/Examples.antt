-- A title's voice and a click's from one state, computed: each plays in the merged block as in its own, and not as in the other's.
-- Assumes nothing.
use mathlib.Core.Path.{◌≡◌, refl}
use mathlib.Core.List.{List, [], ◌∷◌, ◌++◌}
use Prim.Native.Nat.{ℕ, zero, ◌+◌}
use native.Mathlib.Omega.{arith}
use lib.ListN.{replicate}
use Rattle.floats.specs.Defs.{zero32}
use Rattle.rows.specs.Rows.{put}
use Rattle.rows.specs.Tables.{table, joined}
use Rattle.state.specs.State.{params_in}
use Rattle.whole.specs.Counts.{counts_allowed}
use Rattle.whole.specs.Whole.{Whole}
use Rattle.voice_records.specs.Record.{record_used, channel_id, id_at}
use Rattle.reply_sections.specs.Voices.{heard_of}
use Rattle.state_voices.specs.StateVoices.{voice_on}
use Rattle.voice_render.specs.Next.{next_voice, voice_rounds}
use Rattle.render.specs.Render.{render_of}
use Rattle.calls.specs.Sections.{section_call}
use Rattle.secrecy.specs.Sessions.{update}
use Rattle.secrecy.specs.Kept.{session_whole}
use Rattle.secrecy.specs.Computing.{computing}
use Rattle.secrecy.specs.Inputs.{word, no_splitter, new_voice, unused_voice, wave, voices_input, slices_for, start_for, base, whole_range}
use Rattle.secrecy.specs.Inputs.{rendering, pcm}
use Rattle.secrecy.proofs.Holds.{p, st, opened_on}
use Rattle.secrecy_items.specs.Items.{Item, single, section}
use Rattle.merging.specs.Merge.{padded, voices_apart, chosen_record, merged_record, any_below, record_names, names, channels_apart}
use Rattle.merging.specs.Merge.{chosen_resource, merged_resource, title_header, written_header, merged_pools, merged_block}
use Rattle.merging.specs.Answer.{merge_done, merge_call}
use Rattle.merging_plays.specs.Told.{Told, told_of, rounds_over, told_items}
use Rattle.merging_plays.specs.Plays.{PlaysAlike, merged_for, click}
use Rattle.merging_plays.proofs.Plays.{merged_plays}

-- ---- the blocks

-- voice 0 is the title's: eight samples, channel resource 0. Voice 1 is the click's: the six samples behind them, resource 1
abbrev title_block : List ℕ
title_block = voices_input (new_voice 0 0 no_splitter (wave 0 base 16 8 0) ∷ [])

abbrev click_block : List ℕ
click_block =
    voices_input (unused_voice 0 0 no_splitter [] ∷ new_voice 0 0 no_splitter (wave 0 (base + 16) 12 6 0 ++ (word 0x140 1 ∷ [])) ∷ [])

-- as long as the block that is made of them
abbrev output : List ℕ
output = replicate 0x400 9

abbrev merged : List ℕ
merged = merged_for st title_block click_block output

-- what is computed of a merge
merging : Unit {0}
unfolding merge_call merge_done counts_allowed voices_apart channels_apart names record_names any_below id_at channel_id record_used merged_block
    written_header title_header merged_pools merged_resource chosen_resource merged_record chosen_record padded table joined put
merging = tt

-- ---- a session

-- the samples of both, each the number x
abbrev memory : ℕ → List ℕ
memory x = pcm (replicate 14 x)

-- after the block: a render, the positions, two renders in one section, and the positions again
abbrev rest : List ℕ → List Item
rest m =
    single (rendering m) ∷ single (update 0 [] (replicate 0x1c0 0)) ∷ section 2 (whole_range m) m (replicate 8 zero32)
    ∷ single (update 0 [] (replicate 0x1c0 0)) ∷ []

abbrev session : List ℕ → List ℕ → List Item
session block m = single (update 0 block (replicate 0x1c0 0)) ∷ rest m

-- what is told of a voice: the samples and buffers that it has played, by an update; its rounds, by a render or a section
abbrev position : ℕ → ℕ → Told
position played consumed = told_of 0 (heard_of played consumed) 0

abbrev rounds : ℕ → Told
rounds n = told_of 0 [] n

-- of the title's voice, of the click's, and of one that is not in use
abbrev title_told : List Told
title_told = position 0 0 ∷ rounds 1 ∷ position 2 0 ∷ rounds 2 ∷ position 6 0 ∷ []

abbrev click_told : List Told
click_told = position 0 0 ∷ rounds 1 ∷ position 2 0 ∷ rounds 2 ∷ position 6 1 ∷ []

abbrev nothing_told : List Told
nothing_told = position 0 0 ∷ rounds 0 ∷ position 0 0 ∷ rounds 0 ∷ position 0 0 ∷ []

-- in the merged block, in its own and in the other's
pub title_told_lem : (told_items 0 st (session merged (memory 7)) ≡ title_told)
    × (told_items 0 st (session title_block (memory 7)) ≡ title_told)
    × (told_items 0 st (session click_block (memory 7)) ≡ nothing_told)
unfolding computing section_call start_for voices_input rendering pcm rounds_over voice_rounds next_voice render_of voice_on merging
title_told_lem = (refl, refl, refl)

pub click_told_lem : (told_items 1 st (session merged (memory 7)) ≡ click_told)
    × (told_items 1 st (session click_block (memory 7)) ≡ click_told)
    × (told_items 1 st (session title_block (memory 7)) ≡ nothing_told)
unfolding computing section_call start_for voices_input rendering pcm rounds_over voice_rounds next_voice render_of voice_on merging
click_told_lem = (refl, refl, refl)

-- ---- the theorem holds of them: what it asks is so, and the sample bytes may differ

pub merge_succeeds : (merge_call (params_in st) title_block click_block output).number ≡ 0
unfolding computing start_for voices_input merging
merge_succeeds = refl

whole : Whole st
unfolding start_for
whole = session_whole p (slices_for 2) opened_on [] zero

pub click_plays : PlaysAlike 1 st st (session merged (memory 7)) (session click_block (memory 8))
unfolding computing start_for voices_input rendering pcm
click_plays =
    merged_plays st whole title_block click_block output merge_succeeds 1 (omega arith) click refl 0 _ _ refl (rest (memory 7))
    (rest (memory 8)) refl
