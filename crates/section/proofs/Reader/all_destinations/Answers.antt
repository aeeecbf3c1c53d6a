-- `Reader::all_destinations` meets its contract: `Walking` holds at each turn. Assumes nothing.
use Rattle.std.proofs.Common.{◌∙◌, arith}
use Rattle.splitters.specs.Walk.{walk_more, walk_stop, walk_end}
use Rattle.splitters.specs.Destinations.{left, destination_step, destinations_from}
use Rattle.section.proofs.Places.{sees, misses, near}
use Rattle.section.proofs.Here.{here}
use Rattle.section.proofs.Reader.all_destinations.Goals as goal

pub returns-then-field-ne-DESTINATION_MAGIC : goal.returns-then-field-ne-DESTINATION_MAGIC
unfolding destinations_from
returns-then-field-ne-DESTINATION_MAGIC c =
    let l = c.loop-k.invariant in
    (l.same_block, walk_stop l.walking (omega arith) (misses _ _ (here _ l.same_block c.field.ensures) c.if-field-ne-DESTINATION_MAGIC.true), l.near)

pub next_destination-q-requires : goal.next_destination-q-requires
next_destination-q-requires c =
    let b = near _ _ (here _ c.loop-k.invariant.same_block c.field.ensures) c.if-field-ne-DESTINATION_MAGIC.false (omega arith) (omega arith) in
    let s = c.requires.2 in
    (b, omega arith, record { splitters = s.splitters; destinations = s.destinations; words_long = omega arith; floats_long = omega arith })

pub loop-k-preserved : goal.loop-k-preserved
loop-k-preserved c =
    let l = c.loop-k.invariant in
    let word = here _ l.same_block c.field.ensures in
    let next = c.next_destination-q.ensures in
    let b = near _ _ word c.if-field-ne-DESTINATION_MAGIC.false (omega arith) (omega arith) in
    record {
      same_block = next.0 ∙ l.same_block;
      walking = walk_more l.walking (omega arith) (sees _ _ word c.if-field-ne-DESTINATION_MAGIC.false)
          (next.1 ∙ (λ i. destination_step c.args.ns c.args.nd (l.same_block i).now c.args.size (left c.loop-k.q.at c.loop-k.words c.loop-k.floats)));
      words_len = omega arith;
      floats_len = omega arith;
      near = omega arith;
    }

pub returns : goal.returns
unfolding destinations_from
returns c =
    let l = c.loop-k.invariant in
    (l.same_block, walk_end l.walking (omega arith), l.near)
