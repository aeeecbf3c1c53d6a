-- `gain::steady` meets its contract: two floats that compare equal and are no zeros are the same. Assumes nothing.
use Rattle.std.proofs.Common.{T, sym, subst}
use lib.Ieee.{binary32, of_bits, ne}
use lib.Ieee.Fits.{add-fits}
use Rattle.gain.specs.Same.{same}
use Rattle.gain.proofs.steady.Goals as goal

pub returns-then-from : goal.returns-then-from
unfolding of_bits ne
returns-then-from c =
    let a = c.args in
    λ h.
    same binary32 _ _ (add-fits binary32 a.from a.step) (subst T (sym c.well_formed.0.1) tt) (subst T (sym h) tt)
    (subst T (sym c.if-from.true) tt)
