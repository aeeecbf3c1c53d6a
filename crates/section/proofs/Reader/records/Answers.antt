-- `Reader::records` meets its contract: what each call leaves, the next one takes, and the reader stays on the block. Assumes nothing.
use Rattle.std.proofs.Common.{◌∙◌, arith}
use Rattle.splitters.specs.Destinations.{stride_of, destinations_from}
use Rattle.section.proofs.InTurn.{in_turn, rounded}
use Rattle.section.proofs.Reader.records.Goals as goal

pub returns : goal.returns
returns c =
    let s = c.all_splitters-q in
    let end = c.next_multiple_of.ensures in
    let block = s.ensures.0 in (
      in_turn _ _ _ _ _ _ _ _ s.ensures.1
          (c.stride-size.ensures.0 ∙ (λ i. stride_of (block i).now s.result.at c.args.destination_count))
          (c.all_destinations-e.ensures.1
          ∙ (λ i. destinations_from c.args.ns c.args.nd (block i).now c.stride-size.result c.args.destination_count s.result.at s.new.words c.args.floats.now))
          (rounded _ end.lower_bound end.upper_bound end.multiple),
      omega arith,
    )
