-- `sending::to_mix` meets its contract: the resources that are lent come back in their place. Assumes nothing.
use native.Mathlib.Omega.{arith}
use Rattle.rows.specs.Lent.{length_lent}
use Rattle.sending.specs.Routes.{to_mix_back}
use Rattle.sending.proofs.to_mix.Goals as goal

pub to_mix-requires : goal.to_mix-requires
to_mix-requires c = record { ids = c.requires.ids; resources = length_lent _ _ _ c.requires.resources }

pub returns : goal.returns
returns c =
    to_mix_back c.args.nc c.args.a c.args.floats.now c.args.buffers.now c.requires.resources _ _ _ _ _ _ c.requires.ids (omega arith) c.to_mix.ensures
