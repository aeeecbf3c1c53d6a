-- The answer of `jeqlluna_merge` as that of `merging::merge`. Definitions only.
use Rattle.std.specs.Prelude.{ℕ, List, Result, Ok, Err}
use Rattle.merging.specs.declared.MergeError.{MergeError}
use Rattle.merging.specs.Answer.{MergeOutcome, merge_left, merge_number}
use Rattle.cabi.specs.declared.merge.JeqllunaMerged.{JeqllunaMerged}

-- an answer with the output as the call left it
abbrev pub merge_in : JeqllunaMerged → List ℕ → MergeOutcome
merge_in r out = merge_left r.number r.size out

-- an answer of these numbers
abbrev pub merged_as : ℕ → ℕ → JeqllunaMerged
merged_as n size = record { number = n; size = size }

-- an answer in numbers
abbrev pub merge_told : Result ℕ MergeError → JeqllunaMerged
merge_told (Ok size) = merged_as 0 size
merge_told (Err e) = merged_as (merge_number e) 0
