-- What two renders of one shape share of sample memory. Assumes nothing.
use mathlib.Core.Path.{◌≡◌, ap}
use mathlib.Core.List.{List}
use Prim.Native.Nat.{ℕ}
use lib.Ieee.{Float}
use lib.ListN.{length}
use Rattle.ranges.specs.Ranges.{Range}
use Rattle.secrecy.specs.Sessions.{renders, render, shape}
use Rattle.secrecy.specs.Shapes.{ranges_in, memory_of, length_of}

-- the ranges, each with its base and its part, and the lengths of the two slices
pub shared : (rs rs' : List Range) (m m' : List ℕ) (frames frames' : List Float)
    → shape (render rs m frames) ≡ shape (render rs' m' frames')
    → (rs ≡ rs') × (length m ≡ length m') × (length frames ≡ length frames')
unfolding ranges_in memory_of length_of
shared rs rs' m m' frames frames' e = (ap ranges_in e, ap memory_of e, ap length_of e)

-- and nothing else
pub nothing_else : (rs : List Range) (m m' : List ℕ) (frames frames' : List Float) → length m ≡ length m' → length frames ≡ length frames'
    → shape (render rs m frames) ≡ shape (render rs m' frames')
nothing_else rs m m' frames frames' long wide = λ i. renders rs (long i) (wide i)
