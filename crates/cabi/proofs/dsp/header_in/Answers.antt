-- `cabi::dsp::header_in` meets its contract. Assumes nothing.
use Rattle.cabi.specs.Dsp.{header_in}
use Rattle.cabi.proofs.Told.{with_contexts}
use Rattle.cabi.proofs.dsp.header_in.Goals as goal

pub returns : goal.returns
returns c =
    let h = header_in c.args.h in
    λ i. with_contexts (c.context_in-start_context.ensures i) (c.context_in-loop_context.ensures i) h
