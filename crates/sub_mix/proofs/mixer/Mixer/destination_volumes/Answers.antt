-- `sub_mix::Mixer::destination_volumes` meets its contract: they are inside the destination's floats. Assumes nothing.
use Prim.Native.Nat.{◌*◌}
use native.Mathlib.Omega.{arith}
use Rattle.rows.specs.Lent.{part_cut, length_lent}
use Rattle.sub_mix.proofs.mixer.Mixer.destination_volumes.Goals as goal

pub returns : goal.returns
returns c =
    let s = c.args.self.now in
    let at = c.args.d * 48 in
    (part_cut s.destinations.now at 24, length_lent s.destinations.now at 24 (omega (arith, s.destinations_long, c.requires)))
