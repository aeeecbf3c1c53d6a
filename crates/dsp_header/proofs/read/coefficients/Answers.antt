-- `dsp_header::read::coefficients` meets its contract. Assumes nothing.
use mathlib.Core.Path.{refl}
use native.Mathlib.Omega.{arith}
use Rattle.rows.proofs.Filling.{fill_begin, fill_more, fill_end}
use Rattle.dsp_header.specs.Header.{coefficients_at}
use Rattle.dsp_header.proofs.Numbers.{signed_is}
use Rattle.dsp_header.proofs.read.coefficients.Goals as goal

pub loop-k-init : goal.loop-k-init
loop-k-init c = (refl, fill_begin _ 16 _)

pub loop-k-preserved : goal.loop-k-preserved
loop-k-preserved c =
    let l = c.loop-k in
    let e = signed_is _ _ c.cast_signed.type_inv c.cast_signed.ensures c.word.ensures in
    (l.invariant.0, fill_more l.invariant.1 l.invariant.0 (omega arith) e)

pub returns : goal.returns
unfolding coefficients_at
returns c = fill_end c.loop-k.invariant.1 c.loop-k.invariant.0 (omega arith)
