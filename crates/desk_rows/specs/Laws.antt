-- Whether a destination is configured, by its three tests. Assumes nothing.
use Rattle.std.specs.Prelude.{◌≡◌, Bool, false, List, ℕ, ◌+◌, ◌*◌, ◌≤◌, ◌<◌, ltb, get_or}
use borrow.Author.Tests.{lt-ltb, le-ltb, eq-eqb, ne_eqb}
use Rattle.desk_rows.specs.DeskRows.{configured_of, destination_mix}

module _ (ns nd : ℕ) (lists : List ℕ) (d : ℕ) where
  pub no_destination : nd ≤ d → false ≡ configured_of ns nd lists d
  unfolding configured_of
  no_destination h = rw (le-ltb d nd h)

  pub not_used : d < nd → get_or lists (ns * 129 + d * 2) 0 ≡ 0 → false ≡ configured_of ns nd lists d
  unfolding configured_of
  not_used h e = rw (lt-ltb d nd h, eq-eqb _ 0 e)

  pub by_its_mix : d < nd → (get_or lists (ns * 129 + d * 2) 0 ≡ 0 → ⊥) → {r : Bool} → r ≡ ltb (destination_mix ns lists d) 0x7fffffff → r ≡ configured_of ns nd lists d
  unfolding configured_of
  by_its_mix h n e = rw (lt-ltb d nd h, ne_eqb _ 0 n) e
