-- The lengths of a state that fits the room that the program has. Definitions only.
use Rattle.std.specs.Prelude.{◌≤◌}
use Rattle.renderer.specs.declared.answers.Lengths.{Lengths}

pub record Fits (at : Lengths) : Type 0 where
  pub words : at.words ≤ 1390
  pub longs : at.longs ≤ 57
  pub floats : at.floats ≤ 2932
  pub contexts : at.contexts ≤ 12
  pub history : at.history ≤ 72
