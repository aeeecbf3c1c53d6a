-- Whether two memories agree on spans, as a test that can be computed; `agrees` says that its yes is `Agree`. Assumes nothing.
use mathlib.Core.Path.{◌≡◌, refl, ap, sym, subst, ◌∙◌}
use mathlib.Core.Bool.{Bool, true, false, true≢false, not, ◌&&◌, ◌||◌}
use mathlib.Core.List.{List, [], ◌∷◌, Memᴰ}
use Prim.Native.Nat.{ℕ, zero, suc, ◌+◌, ◌-◌, ◌^◌, ◌%◌, ◌≤◌, ◌<◌}
use native.Mathlib.Omega.{arith}
use borrow.Author.Tests.{ltb-true, ltb-false, eqb-true}
use lib.Dec.{ltb, eqb}
use lib.ListN.{get_or}
use Rattle.ranges.specs.Ranges.{Range, holds}
use Rattle.ranges.proofs.Holds.{holds_inside}
use Rattle.row_tests.specs.Tests.{both_left, both_right}
use Rattle.alike.specs.Reads.{Span}
use Rattle.secrecy.specs.Declared.{Within}
use Rattle.secrecy.specs.Demand.{Agree}

-- at an address of a range: of an address that it does not have there is nothing to compare
unfoldable pub same_in : Range → List ℕ → List ℕ → ℕ → Bool
unfolding holds
same_in r m m' x = not (holds r.base r.size x) || eqb (get_or m (r.start + (x - r.base)) 0) (get_or m' (r.start + (x - r.base)) 0)

-- in each range
unfoldable pub same_at : List Range → List ℕ → List ℕ → ℕ → Bool
unfolding same_in
same_at [] m m' x = true
same_at (r ∷ rs) m m' x = same_in r m m' x && same_at rs m m' x

-- at the first n addresses from `at` on
unfoldable pub same_from : List Range → List ℕ → List ℕ → ℕ → ℕ → Bool
unfolding same_at
same_from rs m m' at zero = true
same_from rs m m' at (suc n) = same_at rs m m' ((at + n) % 2 ^ 64) && same_from rs m m' at n

-- at all addresses of these spans
unfoldable pub same_on : List Range → List ℕ → List ℕ → List Span → Bool
unfolding same_from
same_on rs m m' [] = true
same_on rs m m' (s ∷ spans) = same_from rs m m' s.at s.long && same_on rs m m' spans

module _ (m m' : List ℕ) where
  -- ---- at an address

  -- the bytes of a range at an address are equal
  abbrev Equal : Range → ℕ → Type 0
  Equal r x = get_or m (r.start + (x - r.base)) 0 ≡ get_or m' (r.start + (x - r.base)) 0

  -- by the two tests of an address
  by_tests : (r : Range) (x : ℕ) (has same : Bool) → eqb (get_or m (r.start + (x - r.base)) 0) (get_or m' (r.start + (x - r.base)) 0) ≡ same
      → has ≡ true → not has || same ≡ true → Equal r x
  by_tests r x true true es h t = eqb-true _ _ es
  by_tests r x true false es h t = absurd (true≢false (sym t))
  by_tests r x false same es h t = absurd (true≢false (sym h))

  -- in each range that has the address
  at_address : (rs : List Range) (x : ℕ) → same_at rs m m' x ≡ true → (r : Range) → Memᴰ r rs → r.base ≤ x → x < r.base + r.size
      → Equal r x
  unfolding same_at same_in
  at_address (q ∷ rs) x t r (Memᴰ.head e) lo hi =
      let has : holds q.base q.size x ≡ true =
      subst (λ (u : Range). holds u.base u.size x ≡ true) e (holds_inside r.base r.size x lo (omega arith)) in
      let place = q.start + (x - q.base) in
      subst (λ (u : Range). Equal u x) (sym e)
      (by_tests q x (holds q.base q.size x) (eqb (get_or m place 0) (get_or m' place 0)) refl has
      (both_left (same_in q m m' x) (same_at rs m m' x) t))
  at_address (q ∷ rs) x t r (Memᴰ.tail i) lo hi = at_address rs x (both_right (same_in q m m' x) (same_at rs m m' x) t) r i lo hi
  at_address [] x t r i lo hi = elim i [ ]

  module _ (rs : List Range) where
    -- ---- at the addresses of a span

    -- at place j of n + 1, where the places before n are done
    at_place : (at n j : ℕ) (lower : Bool) → ltb j n ≡ lower → j < suc n → same_at rs m m' ((at + n) % 2 ^ 64) ≡ true
        → (j < n → same_at rs m m' ((at + j) % 2 ^ 64) ≡ true) → same_at rs m m' ((at + j) % 2 ^ 64) ≡ true
    at_place at n j true el l t before = before (ltb-true j n el)
    at_place at n j false el l t before =
        let last : j ≡ n = omega (arith, ltb-false j n el) in
        ap (λ (k : ℕ). same_at rs m m' ((at + k) % 2 ^ 64)) last ∙ t

    -- at each place of n
    in_span : (at n j : ℕ) → j < n → same_from rs m m' at n ≡ true → same_at rs m m' ((at + j) % 2 ^ 64) ≡ true
    unfolding same_from
    in_span at zero j l t = absurd (omega arith)
    in_span at (suc n) j l t =
        let last : Bool = same_at rs m m' ((at + n) % 2 ^ 64) in
        let before : Bool = same_from rs m m' at n in
        at_place at n j (ltb j n) refl l (both_left last before t) (λ q. in_span at n j q (both_right last before t))

    -- a test that says yes is agreement
    pub agrees : (spans : List Span) → same_on rs m m' spans ≡ true → Agree rs m m' spans
    unfolding same_on
    agrees (s ∷ spans) t r i x lo hi (u, Memᴰ.head e, w) =
        let w' = subst (λ (v : Span). Within v x) e w in
        let here = in_span s.at s.long w'.0 w'.1 (both_left (same_from rs m m' s.at s.long) (same_on rs m m' spans) t) in
        at_address rs x (ap (same_at rs m m') w'.2 ∙ here) r i lo hi
    agrees (s ∷ spans) t r i x lo hi (u, Memᴰ.tail j, w) =
        agrees spans (both_right (same_from rs m m' s.at s.long) (same_on rs m m' spans) t) r i x lo hi (u, j, w)
    agrees [] t r i x lo hi (u, j, w) = elim j [ ]
