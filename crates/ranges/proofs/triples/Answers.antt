-- `ranges::triples` meets its contract: each chunk of three numbers is a range. Assumes nothing.
use Rattle.std.proofs.Common.{map, ap, refl, ◌∙◌}
use Rattle.ranges.specs.Ranges.{range_from}
use Rattle.ranges.proofs.Walk.{ranges_chunks}
use Rattle.ranges.proofs.triples.Goals as goal

pub returns : goal.returns
returns c = ap (map range_from) c.as_chunks.ensures.front ∙ ranges_chunks _ c.args.ranges.now refl
