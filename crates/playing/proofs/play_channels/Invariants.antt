use Prim.Native.Nat.{◌-◌}
use lib.ListN.{length}
use Rattle.plan.specs.Source.{over}
use Rattle.playing.specs.Playing.{material}
use Rattle.playing.specs.Channels.{Sounding}
use Rattle.playing.proofs.play_channels.Given as goal

abbrev pub invariant-loop-c : goal.invariant-loop-c
invariant-loop-c l =
    Sounding (material l.q (over l.s l.ranges) l.memory (length l.initial.src - 3) l.sound l.ratio l.fraction l.n) l.initial.src l.initial.out l.src l.out l.kept l.c
