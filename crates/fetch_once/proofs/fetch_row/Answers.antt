-- `fetch_once::fetch_row` meets what a fetch requires by its own tests: the plan is of as many samples as the row has room for.
-- Assumes nothing.
use mathlib.Core.Path.{sym, ◌∙◌}
use native.Mathlib.Omega.{arith}
use Rattle.ranges.proofs.Questions.{laid_facts}
use Rattle.fetch_once.proofs.fetch_row.Goals as goal

pub invariant_of-sample_memory : goal.invariant_of-sample_memory
invariant_of-sample_memory c = record {
  ascending = laid_facts _ _ (sym c.laid.ensures ∙ c.if-not-laid.false)
      (sym c.near.ensures ∙ c.if-not-near.false);
}

pub fetch_channel-requires : goal.fetch_channel-requires
fetch_channel-requires c = record {
  ready = record {
    history = omega (arith, c.if-out-lt3.false);
    long = omega (arith, c.if-out-gt4100.false);
    index = omega (arith, c.if-q-gt3.false);
    some = omega (arith, c.if-s-eq0.false);
    channels = omega (arith, c.if-s-gt6.false);
    memory = laid_facts _ _ (sym c.laid.ensures ∙ c.if-not-laid.false)
        (sym c.near.ensures ∙ c.if-not-near.false);
  };
  c_lt_channels = omega (arith, c.if-s-c.false);
}
