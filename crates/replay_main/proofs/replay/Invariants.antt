-- `replay_main::replay` goes forward by what each case reads. Assumes nothing.
use Rattle.std.proofs.Common.{length}
use Rattle.replay_main.proofs.replay.Given as goal

abbrev pub decreases-loop-read : goal.decreases-loop-read
decreases-loop-read g l = length l.left
