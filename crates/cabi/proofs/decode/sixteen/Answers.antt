-- `cabi::decode::sixteen` meets its contract. Assumes nothing.
use mathlib.Core.Path.{refl, ◌∙◌}
use native.Mathlib.Omega.{arith}
use mir.Syntax.{w16}
use Rattle.adpcm.proofs.Ints.{back}
use Rattle.rows.proofs.Filling.{fill_begin, fill_more, fill_end}
use Rattle.cabi.specs.Decode.{sixteen_of}
use Rattle.cabi.proofs.decode.sixteen.Goals as goal

pub loop-k-init : goal.loop-k-init
loop-k-init c = (refl, fill_begin _ 16 _)

pub loop-k-preserved : goal.loop-k-preserved
loop-k-preserved c =
    let l = c.loop-k in
    let e = back w16 c.coefficient_at.result c.coefficient_at.type_inv ∙ c.coefficient_at.ensures in
    (l.invariant.0, fill_more l.invariant.1 l.invariant.0 (omega arith) e)

pub returns : goal.returns
unfolding sixteen_of
returns c = fill_end c.loop-k.invariant.1 c.loop-k.invariant.0 (omega arith)
