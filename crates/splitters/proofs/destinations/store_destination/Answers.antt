-- `splitters::destinations::store_destination` meets its contract: the two words and the volumes are the destination's rows. Assumes nothing.
use native.Mathlib.Omega.{arith}
use Rattle.splitters.proofs.Stores.{used_word, words_stored, floats_new, floats_old}
use Rattle.splitters.proofs.destinations.store_destination.Goals as goal

pub returns-then-before-eq0 : goal.returns-then-before-eq0
returns-then-before-eq0 c = (
  words_stored _ _ _ _ _ (used_word _ _ c.flag_at-used.ensures c.from.ensures) c.u32_at.ensures (omega arith),
  floats_new _ _ _ _ _ _ c.put_floats.ensures c.flag_at-used.ensures c.if-used.true c.if-before-eq0.true c.put_floats-then-before-eq0.ensures,
)

pub returns-else-used : goal.returns-else-used
returns-else-used c = (
  words_stored _ _ _ _ _ (used_word _ _ c.flag_at-used.ensures c.from.ensures) c.u32_at.ensures (omega arith),
  floats_old _ _ _ _ _ _ c.put_floats.ensures c.flag_at-used.ensures c.else-used.either,
)
