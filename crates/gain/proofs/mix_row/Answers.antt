-- `gain::mix_row` meets its contract: a gain that does not move is level. Assumes nothing.
use Rattle.std.proofs.Common.{◌∙◌}
use Rattle.gain.specs.Laws.{level_is}
use Rattle.gain.proofs.mix_row.Goals as goal

pub returns-then-steady : goal.returns-then-steady
returns-then-steady c =
    c.mix_level.ensures ∙ level_is _ _ (c.steady.ensures c.if-steady.true) _ _
