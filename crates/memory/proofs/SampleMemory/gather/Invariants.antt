use Rattle.ranges.specs.Ranges.{ranges_of}
use Rattle.ranges.proofs.Walk.{Walk}
use Rattle.memory.specs.Memory.{read_of}
use Rattle.memory.proofs.Gathering.{Gathering}
use Rattle.memory.proofs.SampleMemory.gather.Given as goal

abbrev pub invariant-loop-base : goal.invariant-loop-base
invariant-loop-base l =
    Walk (Gathering l.self.bytes.now l.n (read_of (ranges_of l.self.ranges.now) l.self.bytes.now l.addr l.n) l.at l.done l.out) l.triples l.base-index
