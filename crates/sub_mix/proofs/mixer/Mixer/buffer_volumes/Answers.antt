-- `sub_mix::Mixer::buffer_volumes` meets its contract: they are inside the mix's floats. Assumes nothing.
use Prim.Native.Nat.{◌+◌, ◌*◌}
use native.Mathlib.Omega.{arith}
use Rattle.rows.specs.Lent.{part_cut, length_lent}
use Rattle.sub_mix.proofs.mixer.Mixer.buffer_volumes.Goals as goal

pub returns : goal.returns
returns c =
    let s = c.args.self.now in
    let at = c.args.m * 577 + 1 + c.args.i * 24 in
    (part_cut s.volumes.now at 24, length_lent s.volumes.now at 24 (omega (arith, s.volumes_long, c.requires)))
