-- `Reader::all_splitters` meets its contract: `Walking` holds at each turn. Assumes nothing.
use Rattle.std.proofs.Common.{◌∙◌, arith}
use Rattle.splitters.specs.Walk.{walk_more, walk_stop, walk_end}
use Rattle.splitters.specs.Lists.{lists, splitter_step, splitters_from}
use Rattle.section.proofs.Places.{sees, misses, near}
use Rattle.section.proofs.Here.{here}
use Rattle.section.proofs.Reader.all_splitters.Goals as goal

pub returns-then-field-ne-SPLITTER_MAGIC : goal.returns-then-field-ne-SPLITTER_MAGIC
unfolding splitters_from
returns-then-field-ne-SPLITTER_MAGIC c =
    let l = c.loop-k.invariant in
    (l.same_block, walk_stop l.walking (omega arith) (misses _ _ (here _ l.same_block c.field.ensures) c.if-field-ne-SPLITTER_MAGIC.true), l.near)

pub next_splitter-q-requires : goal.next_splitter-q-requires
next_splitter-q-requires c =
    let b = near _ _ (here _ c.loop-k.invariant.same_block c.field.ensures) c.if-field-ne-SPLITTER_MAGIC.false (omega arith) (omega arith) in
    (b, omega arith, omega arith)

pub loop-k-preserved : goal.loop-k-preserved
loop-k-preserved c =
    let l = c.loop-k.invariant in
    let word = here _ l.same_block c.field.ensures in
    let next = c.next_splitter-q.ensures in
    let b = near _ _ word c.if-field-ne-SPLITTER_MAGIC.false (omega arith) (omega arith) in
    record {
      same_block = next.0 ∙ l.same_block;
      walking = walk_more l.walking (omega arith) (sees _ _ word c.if-field-ne-SPLITTER_MAGIC.false)
          (next.1 ∙ (λ i. splitter_step c.args.ns c.args.nd (l.same_block i).now (lists c.loop-k.q.at c.loop-k.words)));
      words_len = omega arith;
      near = omega arith;
    }

pub returns : goal.returns
unfolding splitters_from
returns c =
    let l = c.loop-k.invariant in
    (l.same_block, walk_end l.walking (omega arith), l.near)
