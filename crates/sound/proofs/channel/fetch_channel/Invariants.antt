use Prim.Native.Nat.{◌-◌}
use Rattle.voice.specs.Queue.{queue_at}
use Rattle.plan.specs.Source.{over}
use Rattle.sound.specs.Channel.{Playing}
use Rattle.sound.proofs.channel.fetch_channel.Given as goal

abbrev pub invariant-loop-rounds : goal.invariant-loop-rounds
invariant-loop-rounds l =
    Playing (queue_at l.buffers l.initial.spot) (over l.s l.memory.ranges.now) l.memory.bytes.now l.coefficients l.c l.count l.initial.x l.initial.out l.out (queue_at l.buffers l.spot) l.x l.done l.rounds l.going

abbrev pub decreases-loop-rounds : goal.decreases-loop-rounds
decreases-loop-rounds l = 64 - l.rounds
