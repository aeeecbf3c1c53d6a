-- `resample::fill` meets its contract: either loop makes the same outputs. Assumes nothing.
use Rattle.std.proofs.Common.{T, sym, subst, rules}
use Rattle.resample.proofs.fill.Goals as goal

pub fill_in_step-requires : goal.fill_in_step-requires
fill_in_step-requires c = record { in_step = c.in_step.ensures (subst T (sym c.if-in_step.true) tt); room = search rules }
