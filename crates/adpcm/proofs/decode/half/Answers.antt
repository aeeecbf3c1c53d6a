-- `adpcm::half` meets its contract: each arm is a case of the definition. Assumes nothing.
use Rattle.adpcm.proofs.decode.half.Goals as goal

pub returns-then-high : goal.returns-then-high
returns-then-high c = simp c.if-high.true

pub returns-else-high : goal.returns-else-high
returns-else-high c = simp c.if-high.false
