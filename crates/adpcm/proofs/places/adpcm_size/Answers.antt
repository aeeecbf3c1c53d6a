-- `adpcm::adpcm_size` meets its contract: it is half of the nibble, rounded up. Assumes nothing.
use borrow.Author.Rules.{rules}
use native.Mathlib.Omega.{arith}
use Rattle.adpcm.specs.Places.{nibble_le}
use Rattle.adpcm.specs.Places.{size_of}
use Rattle.adpcm.proofs.places.adpcm_size.Goals as goal

pub overflow_add-result : goal.overflow_add-result
overflow_add-result c = omega (arith, nibble_le c.args.s.0, c.adpcm_nibble-n.ensures)

pub returns : goal.returns
unfolding size_of
returns c = search rules
