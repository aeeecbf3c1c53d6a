use mathlib.Core.Path.{◌≡◌}
use mathlib.Core.List.{List}
use Prim.Native.Nat.{◌*◌}
use lib.ListN.{length}
use lib.Ieee.{Float}
use Rattle.rows.specs.Loops.{Turning}
use Rattle.desk.specs.Channels.{channel_step}
use Rattle.desk.proofs.channels.update_channel_resources.Given as goal

abbrev pub invariant-loop-k : goal.invariant-loop-k
invariant-loop-k l = Turning (λ (x : List Float). length x ≡ l.n * 48) (channel_step l.d) l.k-end l.initial.floats l.floats l.k
