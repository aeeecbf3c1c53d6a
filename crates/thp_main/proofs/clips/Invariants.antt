-- `thp_main::clips` goes forward by what each clip reads. Assumes nothing.
use Rattle.std.proofs.Common.{length}
use Rattle.thp_main.proofs.clips.Given as goal

abbrev pub decreases-loop-read : goal.decreases-loop-read
decreases-loop-read g l = length l.left
