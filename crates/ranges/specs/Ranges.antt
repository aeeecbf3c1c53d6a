-- Sample memory in ranges: each has a base address and a part of one slice of bytes. A read goes through the ranges in turn, and each gives
-- what it has from the place reached on. Here without a byte: how much of a read is left, and whether it succeeds.
use Rattle.std.specs.Prelude.{ℕ, ◌+◌, ◌-◌, ◌%◌, ◌^◌, Bool, true, false, cond, ◌&&◌, List, [], ◌∷◌, get_or, ◌==◌, nat_le, nat_lt}

-- addresses base .. base + size - 1 are the slice's part from start on
pub record Range : Type 0 where
  pub base : ℕ
  pub start : ℕ
  pub size : ℕ

abbrev pub range : ℕ → ℕ → ℕ → Range
range base start size = record { base = base; start = start; size = size }

-- three numbers as a range
abbrev pub range_from : List ℕ → Range
range_from t = range (get_or t 0 0) (get_or t 1 0) (get_or t 2 0)

-- three numbers a range: base, start and size; one or two that are left over are no range
unfoldable pub ranges_of : List ℕ → List Range
ranges_of [] = []
ranges_of (b ∷ []) = []
ranges_of (b ∷ s ∷ []) = []
ranges_of (b ∷ s ∷ n ∷ rest) = range b s n ∷ ranges_of rest

-- an address is one of a range's
unfoldable pub holds : ℕ → ℕ → ℕ → Bool
holds base size x = nat_le base x && nat_lt (x - base) size

-- how many bytes it has from there on
abbrev pub room_of : ℕ → ℕ → ℕ → ℕ
room_of base size x = size - (x - base)

-- the same of a range as a record, and the address after its last
abbrev pub has : Range → ℕ → Bool
has r x = holds r.base r.size x

abbrev pub room_in : Range → ℕ → ℕ
room_in r x = room_of r.base r.size x

abbrev pub end_of : Range → ℕ
end_of r = r.base + r.size

-- the place that a read has reached, and what is left of it, when a range has given what it has
unfoldable pub next_at : ℕ → ℕ → ℕ → ℕ
unfolding holds
next_at base size at = cond (holds base size at) ((base + size) % 2 ^ 64) at

unfoldable pub next_left : ℕ → ℕ → ℕ → ℕ → ℕ
unfolding holds
next_left base size at left = cond (holds base size at) (left - room_of base size at) left

-- what is left of a read after all ranges
unfoldable pub left_of : List Range → ℕ → ℕ → ℕ
unfolding next_at next_left
left_of [] at left = left
left_of (r ∷ rs) at left = left_of rs (next_at r.base r.size at) (next_left r.base r.size at left)

-- decided by the ranges, the address and the length alone
unfoldable pub readable_of : List Range → ℕ → ℕ → Bool
unfolding left_of
readable_of rs addr len = left_of rs addr len == 0

-- an address lies in a range
unfoldable pub inside_of : List Range → ℕ → Bool
unfolding holds
inside_of [] x = false
inside_of (r ∷ rs) x = cond (has r x) true (inside_of rs x)
