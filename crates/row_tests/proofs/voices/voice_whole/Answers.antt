-- `voices::voice_whole` meets its contract: each test is one of the definition's. Assumes nothing.
use Rattle.std.proofs.Common.{arith}
use Rattle.std.proofs.lemmas.Grind.{common_steps}
use Rattle.row_tests.specs.Tests.{every}
use Rattle.row_tests.specs.Voices.{voice_whole}
use Rattle.row_tests.proofs.voices.voice_whole.Goals as goal

pub returns-then-some_channel : goal.returns-then-some_channel
unfolding voice_whole every
returns-then-some_channel c = grind (arith, common_steps)

pub returns-else-some_channel : goal.returns-else-some_channel
unfolding voice_whole every
returns-else-some_channel c = grind (arith, common_steps)
