-- `floats::floor` meets its contract: the library's `floor` is `floor_of`. Assumes nothing.
use Rattle.std.proofs.Common.{T, sym, ◌∙◌, subst}
use Rattle.floats.proofs.WholePart.{floor_same}
use Rattle.floats.proofs.floor.Goals as goal

pub returns : goal.returns
returns c = c.floor.ensures ∙ floor_same c.args.x (subst T (sym c.well_formed.0.1) tt)
