use Prim.Native.Nat.{◌-◌}
use Rattle.ranges.specs.Ranges.{ranges_of}
use Rattle.sound.proofs.Stretches.{Reached}
use Rattle.sound.proofs.pcm.all_frames.Given as goal

abbrev pub invariant-loop-done : goal.invariant-loop-done
invariant-loop-done l =
    Reached l.width l.channels l.c l.n l.addr (ranges_of l.memory.ranges.now) l.memory.bytes.now l.initial.out l.out l.done

abbrev pub decreases-loop-done : goal.decreases-loop-done
decreases-loop-done l = l.n - l.done
