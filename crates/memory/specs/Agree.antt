-- Two lists of bytes that agree at the addresses of ranges from lo up to hi.
use Rattle.std.specs.Prelude.{ℕ, ◌+◌, ◌-◌, ◌≤◌, ◌<◌, ◌≡◌, get_or}
use mathlib.Core.List.{List, Memᴰ}
use Rattle.ranges.specs.Ranges.{Range}

-- of one range
abbrev pub AgreeIn : Range → List ℕ → List ℕ → ℕ → ℕ → Type 0
AgreeIn r m m' lo hi =
    (x : ℕ) → r.base ≤ x → x < r.base + r.size → lo ≤ x → x < hi
    → get_or m (r.start + (x - r.base)) 0 ≡ get_or m' (r.start + (x - r.base)) 0

-- of each
abbrev pub AgreeFrom : List Range → List ℕ → List ℕ → ℕ → ℕ → Type 0
AgreeFrom rs m m' lo hi = (r : Range) → Memᴰ r rs → AgreeIn r m m' lo hi
