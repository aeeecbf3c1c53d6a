-- `adpcm::adpcm_nibble` meets its contract: each arm is a case of the definition. Assumes nothing.
use native.Mathlib.Omega.{arith}
use Rattle.adpcm.specs.Places.{nibble_at_lem}
use Rattle.adpcm.proofs.places.adpcm_nibble.Goals as goal

pub returns-then-in_frame-eq0 : goal.returns-then-in_frame-eq0
returns-then-in_frame-eq0 c = omega (arith, (nibble_at_lem c.args.s.0).first c.if-in_frame-eq0.true)

pub returns-else-in_frame-eq0 : goal.returns-else-in_frame-eq0
returns-else-in_frame-eq0 c = omega (arith, (nibble_at_lem c.args.s.0).later (omega arith))
