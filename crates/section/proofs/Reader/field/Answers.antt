-- `Reader::field` meets its contract: past every number it is past any end too. Assumes nothing.
use Rattle.std.proofs.Common.{◌∙◌, ◌+◌}
use Rattle.section.proofs.Here.{saturated}
use Rattle.section.proofs.Reader.field.Goals as goal

pub returns : goal.returns
returns c = c.u32_at.ensures ∙ saturated c.args.self.block.now (c.args.self.at + c.args.o) c.ranges.self.0 c.saturating_add.ensures
