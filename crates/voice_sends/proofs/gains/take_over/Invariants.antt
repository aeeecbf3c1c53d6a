use mathlib.Core.Path.{◌≡◌}
use mathlib.Core.List.{List}
use Prim.Native.Nat.{◌*◌}
use lib.ListN.{length, get_or}
use lib.Ieee.{Float}
use Rattle.voice_sends.specs.Sending.{taken}
use Rattle.rows.specs.Loops.{Turning}
use Rattle.voice_sends.proofs.gains.take_over.Given as goal

abbrev pub invariant-loop-c : goal.invariant-loop-c
invariant-loop-c l = Turning (λ (x : List Float). length x ≡ l.nc * 48) (λ k. taken (get_or l.ids k 0)) l.channels l.initial.resources l.resources l.c
