-- `desk::mixes_whole` meets its contract: each mix is tested with the buffers of those before it. Assumes nothing.
use mathlib.Core.Bool.{not}
use mathlib.Core.Path.{ap, ◌∙◌}
use native.Mathlib.Omega.{arith}
use Rattle.row_tests.specs.Tests.{pass_begin, pass_more, pass_cut, pass_end, passes, sum_none, sum_more}
use Rattle.row_tests.specs.Desk.{mix_whole, mixes_whole, mix_buffers_lem}
use Rattle.row_tests.proofs.desk.mixes_whole.Goals as goal

pub loop-m-init : goal.loop-m-init
loop-m-init c = (pass_begin _ _, sum_none _, omega arith)

pub returns-then-not-mix_whole : goal.returns-then-not-mix_whole
unfolding mixes_whole
returns-then-not-mix_whole c = pass_cut c.loop-m.invariant.0 c.loop-m-test.true (c.mix_whole.ensures ∙ ap (mix_whole _ _) c.loop-m.invariant.1) (ap not c.if-not-mix_whole.true)

pub overflow_add-offset-in-loop-m : goal.overflow_add-offset-in-loop-m
overflow_add-offset-in-loop-m c = omega (arith, mix_buffers_lem _ _ _ (passes c.mix_whole.ensures (ap not c.if-not-mix_whole.false)))

pub loop-m-preserved : goal.loop-m-preserved
loop-m-preserved c =
    let whole = passes c.mix_whole.ensures (ap not c.if-not-mix_whole.false) in (
      pass_more c.loop-m.invariant.0 c.loop-m-test.true (c.mix_whole.ensures ∙ ap (mix_whole _ _) c.loop-m.invariant.1) (ap not c.if-not-mix_whole.false),
      sum_more _ _ _ c.loop-m.invariant.1,
      omega (arith, mix_buffers_lem _ _ _ whole),
    )

pub returns : goal.returns
unfolding mixes_whole
returns c = pass_end c.loop-m.invariant.0 (omega arith)
