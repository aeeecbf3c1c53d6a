-- `voices::voice_words_whole` meets its contract: each test is one of the definition's. Assumes nothing.
use Rattle.std.proofs.Common.{arith}
use Rattle.std.proofs.lemmas.Grind.{common_steps}
use Rattle.row_tests.specs.Tests.{every}
use Rattle.row_tests.specs.Limits.{first_table}
use Rattle.row_tests.specs.Voices.{voice_words_whole, voice_table, wave_table}
use Rattle.row_tests.proofs.voices.voice_words_whole.Goals as goal

pub row_within-requires : goal.row_within-requires
row_within-requires c = record { table = voice_table; w_in_bounds = omega arith }

pub rows_within-requires : goal.rows_within-requires
rows_within-requires c = record { table = first_table _ _ (omega arith); w_in_bounds = omega arith }

pub rows_within-requires-then-rows_within : goal.rows_within-requires-then-rows_within
rows_within-requires-then-rows_within c = record { table = first_table _ _ (omega arith); w_in_bounds = omega arith }

pub rows_within-requires-then-rows_within-2 : goal.rows_within-requires-then-rows_within-2
rows_within-requires-then-rows_within-2 c = record { table = wave_table; w_in_bounds = omega arith }

pub returns-then-rows_within-2 : goal.returns-then-rows_within-2
unfolding voice_words_whole every
returns-then-rows_within-2 c = grind (arith, common_steps)

pub returns-else-rows_within-2 : goal.returns-else-rows_within-2
unfolding voice_words_whole every
returns-else-rows_within-2 c = grind (arith, common_steps)
