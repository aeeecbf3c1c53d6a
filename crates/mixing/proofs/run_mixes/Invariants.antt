use mathlib.Core.Path.{◌≡◌}
use lib.ListN.{length, drop}
use Rattle.mixing.specs.Mixing.{run_mixes}
use Rattle.mixing.proofs.run_mixes.Given as goal

abbrev pub invariant-loop-m : goal.invariant-loop-m
invariant-loop-m l =
    let t = l.mixer in
    let d = t.desk in
    let run = run_mixes (length l.initial.src) d.mixes.n d.mixes.words.now t.volumes.now d.lists.ns d.lists.nd d.lists.words.now t.destinations.now in
    run (drop l.m-index l.order) l.buffers ≡ run l.order l.initial.buffers
