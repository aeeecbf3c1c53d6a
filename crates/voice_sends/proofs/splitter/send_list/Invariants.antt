use Prim.Native.Nat.{◌*◌}
use lib.ListN.{length}
use Rattle.desk_rows.specs.DeskRows.{list_length}
use Rattle.voice_sends.specs.Sending.{passing, entry_sent}
use Rattle.voice_sends.specs.Sizes.{Sizes}
use Rattle.voice_sends.specs.Strides.{Striding}
use Rattle.voice_sends.proofs.splitter.send_list.Given as goal

abbrev pub invariant-loop-k : goal.invariant-loop-k
invariant-loop-k l =
    Striding (Sizes (length l.initial.buffers) (l.desk.lists.nd * 48)) (entry_sent l.rows.n l.rows.samples.now l.rows.channels l.desk.mixes.words.now l.desk.mixes.n l.desk.lists.words.now l.desk.lists.ns l.desk.lists.nd l.s l.c) l.c l.rows.channels (list_length l.desk.lists.words.now l.s) (passing l.initial.buffers l.initial.destinations) (passing l.buffers l.destinations) l.k
