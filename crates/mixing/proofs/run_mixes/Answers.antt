-- `mixing::run_mixes` meets its contract: what is left of the order gives what the whole gives. Assumes nothing.
use mathlib.Core.Path.{◌≡◌, refl, ◌∙◌}
use native.Mathlib.Omega.{arith}
use lib.ListN.{length}
use lib.Seq.{drop-length}
use Rattle.mixing.specs.Mixing.{run_mixes}
use Rattle.mixing.specs.Laws.{next_run}
use Rattle.mixing.proofs.run_mixes.Goals as goal

pub loop-m-init : goal.loop-m-init
loop-m-init c = refl

pub loop-m-preserved : goal.loop-m-preserved
loop-m-preserved c =
    let l = c.loop-m in
    next_run _ _ _ _ _ _ _ _ c.args.order.now l.m-index l.buffers (omega arith) (rw l.auto.src at c.run_mix.ensures) ∙ l.invariant

pub returns : goal.returns
unfolding run_mixes
returns c =
    let e : c.loop-m.m-index ≡ length c.args.order.now = omega arith in
    rw (e, drop-length) at c.loop-m.invariant
