-- `voice::flush` meets its contract: below five turns it is the walk, else the walk of four and the rest worked out. Assumes nothing.
use Rattle.std.proofs.Common.{refl, ◌∙◌, arith}
use Rattle.voice.proofs.LongFlush.{flush_rest}
use Rattle.voice.proofs.ready.flush.Goals as goal

pub returns-then-count-lt5 : goal.returns-then-count-lt5
returns-then-count-lt5 c = record { queue_value = c.walk.ensures.queue_value; turns_value = c.walk.ensures.turns_value ∙ omega arith }

pub returns : goal.returns
returns c =
    let q = c.args.q in
    let lb = c.well_formed.0.1.1.0.1.0.1 in
    let lv = c.well_formed.0.1.1.1.0.1.0.1 in
    record {
      queue_value = flush_rest q lb lv c.args.count c.args.base c.requires (omega arith) c.walk-turns.ensures.queue_value refl refl;
      turns_value = c.walk-turns.ensures.turns_value ∙ omega arith;
    }
