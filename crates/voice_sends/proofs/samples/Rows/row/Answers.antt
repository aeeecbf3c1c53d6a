-- `samples::Rows::row` meets its contract: what is cut out is the definition's part. Assumes nothing.
use Rattle.rows.specs.Lent.{part_cut}
use Rattle.voice_sends.proofs.samples.Rows.row.Goals as goal

pub returns-clause-row : goal.returns-clause-row
returns-clause-row c = part_cut _ _ _
