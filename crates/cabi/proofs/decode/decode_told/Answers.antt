-- `cabi::decode::decode_told` meets its contract. Assumes nothing.
use mathlib.Core.Path.{ap, sym, ◌∙◌}
use Prim.Native.Nat.{ℕ}
use lib.IntN.{pos}
use native.Mathlib.Omega.{arith}
use mir.Syntax.{w16}
use Rattle.adpcm.proofs.Ints.{back}
use Rattle.cabi.specs.Decode.{decoded, decode_told}
use Rattle.cabi.proofs.decode.decode_told.Goals as goal

pub returns-in-Ok : goal.returns-in-Ok
returns-in-Ok c =
    let d = c.in-Ok.d in
    (λ i. decoded 0 d.done d.context.pred_scale (back w16 d.context.history0 (omega arith) i) (back w16 d.context.history1 (omega arith) i))
    ∙ ap decode_told (sym c.in-Ok.is)

pub returns-in-Err : goal.returns-in-Err
returns-in-Err c =
    c.refused.ensures ∙ ap (λ (n : ℕ). decoded n 0 0 (pos 0) (pos 0)) c.number.ensures ∙ ap decode_told (sym c.in-Err.is)
