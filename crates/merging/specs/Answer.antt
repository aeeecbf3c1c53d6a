-- What the call answers and leaves: its questions (docs/QUESTIONS.md) in their sequence, each "no" with its number, and the merged block
-- where all are answered "yes". A refusal's size is 0, and the output stays. Definitions only.
use Rattle.std.specs.Prelude.{cond, List, ℕ, leb, length, Result, Ok, Err}
use Rattle.rows.specs.Rows.{put}
use Rattle.params.specs.declared.params.Params.{Params}
use Rattle.params.specs.Sections.{voices_section}
use Rattle.whole.specs.Counts.{counts_allowed}
use Rattle.merging.specs.declared.MergeError.{MergeError}
use Rattle.merging.specs.declared.MergeError.TheVariants.{Counts, Voices, Channels, Output}
use Rattle.merging.specs.Merge.{voices_apart, channels_apart, merged_block}

-- the answer's number, how many bytes were written, and the output slice
pub record MergeOutcome : Type 0 where
  pub number : ℕ
  pub size : ℕ
  pub output : List ℕ

abbrev pub merge_left : ℕ → ℕ → List ℕ → MergeOutcome
merge_left n size output = record { number = n; size = size; output = output }

-- the block goes to the front of the output
unfoldable pub merge_done : List ℕ → List ℕ → MergeOutcome
merge_done block output = cond (leb (length block) (length output)) (merge_left 0 (length block) (put output 0 block)) (merge_left 18 0 output)

-- 16 and 17 are asked of the voices' sections
unfoldable pub merge_call : Params → List ℕ → List ℕ → List ℕ → MergeOutcome
merge_call p t c output =
    let n = p.voices in
    cond (counts_allowed p)
    (cond (voices_apart n (voices_section t) (voices_section c))
    (cond (channels_apart n (voices_section t) (voices_section c)) (merge_done (merged_block n t c) output) (merge_left 17 0 output))
    (merge_left 16 0 output))
    (merge_left 2 0 output)

-- a refusal's number
abbrev pub merge_number : MergeError → ℕ
merge_number Counts = 2
merge_number Voices = 16
merge_number Channels = 17
merge_number Output = 18

-- an answer with the output as the call left it
abbrev pub merge_seen : Result ℕ MergeError → List ℕ → MergeOutcome
merge_seen (Ok size) output = merge_left 0 size output
merge_seen (Err e) output = merge_left (merge_number e) 0 output
