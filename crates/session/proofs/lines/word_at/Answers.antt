-- `session::word_at` meets its contract: four bytes, the lowest first. Assumes nothing.
use native.Mathlib.Omega.{arith}
use Rattle.session.specs.Words.{word_is}
use Rattle.session.proofs.lines.word_at.Goals as goal

pub returns : goal.returns
returns c =
    omega (arith, word_is _ _ c.byte_at.ensures c.byte_at-2.ensures c.byte_at-3.ensures c.byte_at-4.ensures)
