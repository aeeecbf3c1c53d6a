-- Questions 13 and 5, of ranges and of a slice of n bytes.
use Rattle.std.specs.Prelude.{ℕ, ◌+◌, ◌^◌, Bool, true, ◌&&◌, List, [], ◌∷◌, length, nat_le}
use Rattle.ranges.specs.Ranges.{Range}

-- a range after one of `size` at `base`: it begins at or after that one's end, and its part lies inside n bytes; no sum goes round
unfoldable pub follows : ℕ → ℕ → ℕ → Range → Bool
follows n base size r = nat_le (base + size) r.base && nat_le (r.start + r.size) n

-- each of some ranges after the one before, the first after one of `size` at `base`
unfoldable pub follow : ℕ → ℕ → ℕ → List Range → Bool
unfolding follows
follow n base size [] = true
follow n base size (r ∷ rs) = follows n base size r && follow n r.base r.size rs

-- question 13: at most 16 ranges, each following the one before
unfoldable pub laid_of : ℕ → List Range → Bool
unfolding follow
laid_of n rs = nat_le (length rs) 16 && follow n 0 0 rs

-- question 5, of every range
unfoldable pub near_of : List Range → Bool
near_of [] = true
near_of (r ∷ rs) = nat_le (r.base + r.size) (2 ^ 63) && near_of rs
