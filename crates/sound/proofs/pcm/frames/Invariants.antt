use Prim.Native.Nat.{ℕ, ◌+◌, ◌*◌}
use Rattle.sound.specs.Fill.{Filled}
use Rattle.sound.specs.Sound.{pcm_at}
use Rattle.sound.proofs.pcm.frames.Given as goal

abbrev pub invariant-loop-j : goal.invariant-loop-j
invariant-loop-j l = Filled (λ (i : ℕ). pcm_at l.width l.d ((i * l.channels + l.c) * l.width)) l.n l.initial.out l.out l.j
