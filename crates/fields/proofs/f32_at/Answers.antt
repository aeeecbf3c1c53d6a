-- `fields::f32_at` meets its contract: it is the float of the bits that `u32_at` reads. Assumes nothing.
use mathlib.Core.Path.{ap, ◌∙◌}
use lib.Ieee.{of_bits, binary32}
use Rattle.fields.proofs.f32_at.Goals as goal

pub returns : goal.returns
returns c = c.from_bits.ensures ∙ ap (of_bits binary32) c.u32_at.ensures
