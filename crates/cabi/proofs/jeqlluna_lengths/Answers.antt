-- `cabi::jeqlluna_lengths` meets its contract. Assumes nothing.
use mathlib.Core.Path.{ap, ◌∙◌}
use Rattle.calls.specs.Calls.{lengths_call}
use Rattle.cabi.proofs.jeqlluna_lengths.Goals as goal

pub returns : goal.returns
returns c = c.lengths_told.ensures ∙ c.lengths.ensures ∙ ap lengths_call c.parse.ensures
