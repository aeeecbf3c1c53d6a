-- `adpcm::adpcm_count` meets its contract: what is held past the start, by the closed form of a count. Assumes nothing.
use Prim.Native.Nat.{◌+◌, ◌-◌, ◌/◌}
use mathlib.Core.Path.{◌≡◌, ◌∙◌}
use native.Mathlib.Omega.{arith}
use Rattle.adpcm.specs.Places.{nibble_of, nibble_le, held_of}
use Rattle.adpcm.specs.Counts.{count_held}
use Rattle.adpcm.proofs.decode.adpcm_count.Goals as goal
use Rattle.adpcm.proofs.decode.adpcm_count.Goals.{After-past-left}

left : (c : After-past-left) → c.past-left.result ≡ held_of (nibble_of c.args.start.0 / 2 + c.args.bytes) - c.args.start.0
left c =
    c.past-left.ensures
    ∙ (λ i. (c.adpcm_size_samples.ensures ∙ (λ j. held_of ((c.plus-end.ensures ∙ (λ k. c.adpcm_nibble_byte.ensures k + c.args.bytes)) j))) i - c.args.start.0)

pub plus-end-requires : goal.plus-end-requires
plus-end-requires c = omega (arith, c.adpcm_nibble_byte.ensures, nibble_le c.args.start.0)

pub adpcm_size_samples-requires : goal.adpcm_size_samples-requires
adpcm_size_samples-requires c =
    omega (arith, c.plus-end.ensures, c.adpcm_nibble_byte.ensures, nibble_le c.args.start.0)

pub returns : goal.returns
returns c = omega (arith, left (goal.at.returns c).After-past-left, count_held c.args.bytes c.args.start.0 c.args.want)
