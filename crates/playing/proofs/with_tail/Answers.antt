-- `playing::with_tail` meets its contract: the three from the last place but two on are copied in. Assumes nothing.
use Prim.Native.Nat.{◌-◌, ◌*◌}
use mathlib.Core.Path.{refl, ap, ◌∙◌}
use native.Mathlib.Omega.{arith}
use lib.ListN.{length}
use Rattle.rows.specs.Rows.{put}
use Rattle.rows.specs.Lent.{part_between}
use Rattle.playing.proofs.with_tail.Goals as goal

pub copy_in-requires : goal.copy_in-requires
copy_in-requires c =
    omega (arith, c.well_formed.0.1.1.0.1.0.1)

pub returns : goal.returns
returns c =
    c.copy_in.ensures ∙ ap (put c.args.h.samples (c.args.c * 3)) (part_between c.args.row.now (length c.args.row.now - 3) 3 refl (omega (arith, c.requires.1)))
