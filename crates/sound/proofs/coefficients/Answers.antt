-- `sound::coefficients` meets its contract, by whether they can be read. Assumes nothing.
use mathlib.Core.Bool.{Bool}
use mathlib.Core.Path.{sym, ap, ◌∙◌}
use Rattle.plan.specs.Source.{over}
use Rattle.sound.specs.Sound.{table_of}
use Rattle.sound.proofs.coefficients.Goals as goal

pub returns-then-table : goal.returns-then-table
unfolding table_of
returns-then-table c =
    c.coefficients.ensures ∙ sym (ap (λ (b : Bool). table_of b (over c.args.s c.args.memory.now.ranges.now) c.args.memory.now.bytes.now) c.if-table.true)

pub returns : goal.returns
unfolding table_of
returns c =
    sym (ap (λ (b : Bool). table_of b (over c.args.s c.args.memory.now.ranges.now) c.args.memory.now.bytes.now) c.if-table.false)
