-- `cabi::dsp::header_told` meets its contract. Assumes nothing.
use Rattle.cabi.proofs.Told.{with_contexts}
use Rattle.cabi.proofs.dsp.header_told.Goals as goal

pub returns : goal.returns
returns c =
    let h = c.args.h in
    λ i. with_contexts (c.context_told-start_context.ensures i) (c.context_told-loop_context.ensures i) h
