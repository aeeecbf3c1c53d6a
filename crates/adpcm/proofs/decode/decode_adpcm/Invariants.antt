use Prim.Native.Nat.{◌-◌}
use Rattle.adpcm.proofs.Going.{Going}
use Rattle.adpcm.proofs.decode.decode_adpcm.Given as goal

abbrev pub invariant-loop-done : goal.invariant-loop-done
invariant-loop-done l = Going l.data l.base.0 l.coefficients l.count l.start.0 l.initial.x l.initial.out l.out l.x l.done

abbrev pub decreases-loop-done : goal.decreases-loop-done
decreases-loop-done l = l.count - l.done
