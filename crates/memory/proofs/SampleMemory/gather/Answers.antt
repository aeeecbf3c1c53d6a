-- `memory::SampleMemory::gather` meets its contract: what is gathered, with what the ranges that are left give of the rest, is the whole.
-- Assumes nothing.
use native.Mathlib.Omega.{arith}
use Rattle.ranges.proofs.Walk.{walk_begin, walk_here, walk_more, walk_end}
use Rattle.memory.proofs.Gathering.{gather_begin, gather_part, gather_more, gather_end, gathered}
use Rattle.memory.proofs.SampleMemory.gather.Goals as goal

pub loop-base-init : goal.loop-base-init
loop-base-init c = walk_begin c.triples-triples.ensures (gather_begin _ _ c.args.self.now.ascending c.requires)

pub give-given-requires : goal.give-given-requires
give-given-requires c = gather_part (walk_here c.loop-base.invariant (omega arith))

pub overflow_add-done : goal.overflow_add-done
overflow_add-done c =
    let here = walk_here c.loop-base.invariant (omega arith) in
    omega (arith, (gather_more here c.give-given.ensures c.pass-r.ensures.0).below)

pub loop-base-preserved : goal.loop-base-preserved
loop-base-preserved c =
    walk_more c.loop-base.invariant (omega arith) (λ rs g. gather_more g c.give-given.ensures c.pass-r.ensures.0)

pub returns-then-done-n : goal.returns-then-done-n
returns-then-done-n c = gathered c.loop-base.invariant.rest (omega arith)

pub returns-after-loop-base : goal.returns-after-loop-base
returns-after-loop-base c = gather_end (walk_end c.loop-base.invariant (omega arith))
