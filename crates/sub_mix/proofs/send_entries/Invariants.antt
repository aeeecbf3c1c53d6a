use lib.ListN.{length}
use Rattle.desk_rows.specs.DeskRows.{mix_splitter, list_entry}
use Rattle.sub_mix.specs.SubMix.{send_entry}
use Rattle.rows.specs.Loops.{Turning}
use Rattle.sub_mix.proofs.send_entries.Given as goal

abbrev pub invariant-loop-k : goal.invariant-loop-k
invariant-loop-k l =
    let t = l.mixer in
    let mixes = t.desk.mixes in
    let lists = t.desk.lists in
    Turning (λ _. Unit {0})
    (λ k. send_entry (length l.initial.src) mixes.n mixes.words.now t.volumes.now lists.ns lists.nd lists.words.now t.destinations.now l.m k
    (list_entry lists.words.now (mix_splitter mixes.words.now l.m) k))
    l.k-end l.initial.buffers l.buffers l.k
