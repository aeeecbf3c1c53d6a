-- `sub_mix::run_mix` meets its contract: each way out is a case of `run_mix`. Assumes nothing.
use mathlib.Core.Path.{sym, ◌∙◌}
use native.Mathlib.Omega.{arith}
use Rattle.sub_mix.specs.Laws.{mix_splits, mix_no_splitter, mix_goes, mix_nowhere}
use Rattle.sub_mix.proofs.run_mix.Goals as goal

pub returns-then-to-mixes : goal.returns-then-to-mixes
returns-then-to-mixes c =
    let e = c.destination-to.ensures in
    rw e at c.send_buffers.ensures
    ∙ sym (mix_goes _ _ _ _ _ _ _ _ _ _ (rw e at c.if-to-ne2147483647.true) (omega (arith, c.if-to-mixes.true)))

pub returns-else-to-mixes : goal.returns-else-to-mixes
returns-else-to-mixes c =
    let e = c.destination-to.ensures in
    sym (mix_nowhere _ _ _ _ _ _ _ _ _ _ (rw e at c.if-to-ne2147483647.true) (omega (arith, c.if-to-mixes.false)))

pub returns-then-splitter-mixer : goal.returns-then-splitter-mixer
returns-then-splitter-mixer c =
    c.send_entries.ensures
    ∙ sym
    (mix_splits _ _ _ _ _ _ _ _ _ _ (sym c.destination-to.ensures ∙ c.if-to-ne2147483647.false)
    (omega (arith, c.if-splitter-mixer.true)))

pub returns-else-splitter-mixer : goal.returns-else-splitter-mixer
returns-else-splitter-mixer c =
    sym
    (mix_no_splitter _ _ _ _ _ _ _ _ _ _ (sym c.destination-to.ensures ∙ c.if-to-ne2147483647.false)
    (omega (arith, c.if-splitter-mixer.false)))
