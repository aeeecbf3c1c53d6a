-- `resample::in_step` meets its contract: the bits are those of 1 and 0. Assumes nothing.
use Rattle.std.proofs.Common.{T, sym, ap, ◌∙◌, subst, leb→le, eqb-true, leb-true}
use lib.Ieee.{of_bits, binary32}
use Rattle.resample.specs.InStep.{by_bits}
use Rattle.resample.proofs.in_step.Goals as goal
use Rattle.resample.proofs.in_step.Goals.{then-to_bits-eq0, else-to_bits-eq0, then-to_bits-eq-ONE_BITS, else-to_bits-eq-ONE_BITS}

pub returns-then-count-le16777216 : goal.returns-then-count-le16777216
unfolding of_bits
returns-then-count-le16777216 c = elim c.if-to_bits-eq0.branch [
  | else-to_bits-eq0 w ↦ absurd (subst T (sym c.if-count-le16777216.true ∙ w.value-is ∙ w.if-to_bits-eq0.false) tt)
  | then-to_bits-eq0 w ↦ elim c.if-to_bits-eq-ONE_BITS.branch [
    | else-to_bits-eq-ONE_BITS v ↦ absurd (v.if-to_bits-eq-ONE_BITS.false (eqb-true _ _ (sym v.value-is ∙ w.if-to_bits-eq0.true)))
    | then-to_bits-eq-ONE_BITS v ↦
        let zero = eqb-true _ 0 (sym v.value-is ∙ w.if-to_bits-eq0.true) in
        λ t. record {
          one_each = by_bits _ _ (subst T (sym c.well_formed.1.1.0.1) tt) (ap (of_bits binary32) (sym c.to_bits.ensures ∙ v.if-to_bits-eq-ONE_BITS.true));
          from_zero = by_bits _ _ (subst T (sym c.well_formed.1.1.1.0.1) tt) (ap (of_bits binary32) (sym v.to_bits-then-to_bits-eq-ONE_BITS.ensures ∙ zero));
          floats = leb-true _ _ (sym w.value-is ∙ c.if-count-le16777216.true);
          enough = leb→le _ _ t;
        }
  ]
]

pub returns-else-count-le16777216 : goal.returns-else-count-le16777216
returns-else-count-le16777216 c = λ t. absurd (subst T c.if-count-le16777216.false t)
