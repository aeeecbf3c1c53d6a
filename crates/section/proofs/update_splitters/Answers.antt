-- `section::update_splitters` meets its contract: a return for each way through the section. Assumes nothing.
use mathlib.Core.Path.{◌∙◌}
use native.Mathlib.Omega.{arith}
use Rattle.splitters.specs.Section.{no_splitters, no_destinations, no_header, header}
use Rattle.section.proofs.update_splitters.Goals as goal
use Rattle.section.proofs.update_splitters.Goals.{then-ns-eq0-via-then-ns-eq0, then-ns-eq0-via-else-ns-eq0+then-nd-eq0, then-ns-eq0-via-else-ns-eq0+else-nd-eq0+then-not-headed}

pub returns-then-ns-eq0 : goal.returns-then-ns-eq0
returns-then-ns-eq0 c =
    elim c.then-ns-eq0.branch [
      | then-ns-eq0-via-then-ns-eq0 w ↦ (no_splitters _ _ _ _ _ w.if-ns-eq0.true, omega arith)
      | then-ns-eq0-via-else-ns-eq0+then-nd-eq0 w ↦ (no_destinations _ _ _ _ _ w.if-ns-eq0.false w.if-nd-eq0.true, omega arith)
      | then-ns-eq0-via-else-ns-eq0+else-nd-eq0+then-not-headed w ↦
          (no_header _ _ _ _ _ w.if-ns-eq0.false w.if-nd-eq0.false c.u32_at-headed.ensures w.if-not-headed.true, omega arith)
    ]

pub returns : goal.returns
returns c = (
  c.read_section.ensures.0 ∙ header _ _ _ _ _ c.if-ns-eq0.false c.if-nd-eq0.false c.u32_at-headed.ensures c.if-not-headed.false,
  c.read_section.ensures.1,
)
