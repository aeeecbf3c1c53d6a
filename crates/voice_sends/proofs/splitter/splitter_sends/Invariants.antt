use Prim.Native.Nat.{◌*◌}
use lib.ListN.{length}
use Rattle.voice_sends.specs.Sending.{passing, list_sent}
use Rattle.rows.specs.Loops.{Turning}
use Rattle.voice_sends.specs.Sizes.{Sizes}
use Rattle.voice_sends.proofs.splitter.splitter_sends.Given as goal

abbrev pub invariant-loop-c : goal.invariant-loop-c
invariant-loop-c l =
    Turning (Sizes (length l.initial.buffers) (l.desk.lists.nd * 48)) (list_sent l.rows.n l.rows.samples.now l.rows.channels l.desk.mixes.words.now l.desk.mixes.n l.desk.lists.words.now l.desk.lists.ns l.desk.lists.nd l.s) l.rows.channels (passing l.initial.buffers l.initial.destinations) (passing l.buffers l.destinations) l.c
