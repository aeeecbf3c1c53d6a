-- `splitter::by_splitter` meets its contract: a splitter is there, or not. Assumes nothing.
use native.Mathlib.Omega.{arith}
use Rattle.voice_sends.specs.Cases.{no_splitter_lem, some_splitter}
use Rattle.voice_sends.proofs.splitter.by_splitter.Goals as goal

pub returns-then-s-desk : goal.returns-then-s-desk
returns-then-s-desk c = no_splitter_lem _ _ _ _ _ _ _ _ _ _ (omega arith)

pub returns : goal.returns
returns c = some_splitter _ _ _ _ _ _ _ _ _ _ (omega arith) c.splitter_sends.ensures
