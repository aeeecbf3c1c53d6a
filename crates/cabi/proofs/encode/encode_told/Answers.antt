-- `cabi::encode::encode_told` meets its contract. Assumes nothing.
use mathlib.Core.Path.{ap, sym, ◌∙◌}
use Prim.Native.Nat.{ℕ}
use lib.IntN.{pos}
use native.Mathlib.Omega.{arith}
use mir.Syntax.{w16}
use Rattle.adpcm.proofs.Ints.{back}
use Rattle.cabi.specs.Encode.{encoded_as, encode_told}
use Rattle.cabi.proofs.encode.encode_told.Goals as goal

pub returns-in-Ok : goal.returns-in-Ok
returns-in-Ok c =
    let e = c.in-Ok.e in
    let x = e.context in
    let last = back w16 x.history0 (omega arith) in
    let before = back w16 x.history1 (omega arith) in
    (λ i. encoded_as 0 c.in-Ok.size x.pred_scale (last i) (before i) e.error) ∙ ap encode_told (sym c.in-Ok.is)

pub returns-in-Err : goal.returns-in-Err
returns-in-Err c =
    ap (λ (n : ℕ). encoded_as n 0 0 (pos 0) (pos 0) 0) c.number.ensures ∙ ap encode_told (sym c.in-Err.is)
