-- The stretch of an address: the first range's, or that in the ranges after it. Assumes nothing.
use Rattle.std.proofs.Common.{◌≡◌, ℕ, ◌+◌, ◌-◌, ◌%◌, ◌^◌, true, false, Some, List, ◌∷◌}
use Rattle.ranges.specs.Ranges.{Range, has, room_in}
use Rattle.ranges.specs.Stretch.{stretch, stretch_of}

module _ (r : Range) (rs : List Range) (x : ℕ) where
  pub stretch_here : has r x ≡ true → stretch_of (r ∷ rs) x ≡ Some (stretch ((r.start + (x - r.base)) % 2 ^ 64) (room_in r x))
  unfolding stretch_of
  stretch_here t = rw t

  pub stretch_there : has r x ≡ false → stretch_of (r ∷ rs) x ≡ stretch_of rs x
  unfolding stretch_of
  stretch_there t = rw t
