use Rattle.std.proofs.Common.{◌≡◌, ◌≤◌}
use Rattle.voice.specs.Slots.{promote_to}
use Rattle.voice.proofs.ready.promote.Given as goal

abbrev pub invariant-loop-k : goal.invariant-loop-k
invariant-loop-k l = (l.k ≤ 4) × (l.q ≡ promote_to l.k l.initial.q)
