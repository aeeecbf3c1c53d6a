-- `adpcm::coefficients` meets its contract: after k turns the first k are there. Assumes nothing.
use mathlib.Core.Path.{◌≡◌, refl, sym, ap, ◌∙◌}
use mathlib.Core.List.{[], ◌∷◌, ◌++◌}
use Prim.Native.Nat.{◌*◌, ◌<◌}
use native.Mathlib.Numerals.{add-one}
use native.Mathlib.Omega.{arith}
use lib.ListN.{length, length-set}
use lib.Seq.{take-suc-set, take_all}
use mir.Syntax.{w16}
use mir.Val.{to_z, of_z}
use Rattle.fields.specs.Fields.{field_at}
use Rattle.adpcm.specs.Context.{first_coefficients, coefficients_of}
use Rattle.adpcm.proofs.Ints.{back}
use Rattle.adpcm.proofs.context.coefficients.Goals as goal

pub loop-k-init : goal.loop-k-init
unfolding first_coefficients
loop-k-init c = (omega arith, refl, refl)

pub loop-k-preserved : goal.loop-k-preserved
unfolding first_coefficients
loop-k-preserved c =
    let l = c.loop-k in
    let d = c.args.d.now in
    let v = to_z w16 (of_z w16 c.cast_signed.result) in
    let e : v ≡ to_z w16 (field_at 2 d (l.k * 2)) = back w16 c.cast_signed.result c.cast_signed.type_inv ∙ c.cast_signed.ensures ∙ ap (to_z w16) c.u16_at.ensures in
    let h : l.k < length l.c = omega arith in (
      omega arith,
      length-set l.c l.k v ∙ l.invariant.1,
      rw (add-one, take-suc-set l.c l.k v h) (λ i. l.invariant.2 i ++ (e i ∷ [])),
    )

pub returns : goal.returns
unfolding coefficients_of
returns c =
    let l = c.loop-k in
    let k : l.k ≡ 16 = omega arith in
    sym (take_all 16 l.c (omega arith)) ∙ (rw k at l.invariant.2)
