-- `across::part` meets its contract: what the stretch has room for lies in the slice. Assumes nothing.
use mathlib.Core.Path.{refl, sym, ◌∙◌}
use native.Mathlib.Omega.{arith}
use Rattle.ranges.specs.Ranges.{ranges_of}
use Rattle.across.proofs.Lying.{Lies, lies}
use Rattle.across.proofs.part.Goals as goal
use Rattle.across.proofs.part.Goals.{Then-len-s}

-- where the stretch has room for the read
lie : (c : Then-len-s) → Lies (ranges_of c.args.memory.now.ranges.now) c.args.memory.now.bytes.now c.args.addr c.args.len c.in_ok-s.s
lie c =
    lies c.args.memory.now.bytes.now (omega arith) c.args.memory.now.ascending c.args.addr c.args.len
    (sym c.stretch_at.ensures ∙ c.in_ok-s.was) (omega arith)

pub overflow_add-end : goal.overflow_add-end
overflow_add-end c = omega (arith, (lie (goal.at.overflow_add-end c).Then-len-s).inside)

pub slice_bounds-result-end : goal.slice_bounds-result-end
slice_bounds-result-end c = omega (arith, (lie (goal.at.slice_bounds-result-end c).Then-len-s).inside)

pub returns-then-len-s : goal.returns-then-len-s
returns-then-len-s c = (lie (goal.at.returns-then-len-s c).Then-len-s).bytes refl
