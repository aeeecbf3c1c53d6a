-- Whether a range has an address, from where the address lies, and the other way. Assumes nothing.
use Rattle.std.proofs.Common.{◌≡◌, ℕ, ◌-◌, ◌<◌, ◌≤◌, true, false, ltb, leb, ltb-true, le-ltb, lt-ltb, le-leb, leb-true}
use mathlib.Core.Bool.{and-eq-true_iff}
use borrow.Author.Tests.{lt-leb}
use Rattle.ranges.specs.Ranges.{holds}

module _ (base size x : ℕ) where
  pub holds_inside : base ≤ x → x - base < size → holds base size x ≡ true
  unfolding holds
  holds_inside l h = rw (le-leb base x l, lt-ltb (x - base) size h)

  pub holds_below : x < base → holds base size x ≡ false
  unfolding holds
  holds_below h = rw (lt-leb base x h)

  pub holds_past : base ≤ x → size ≤ x - base → holds base size x ≡ false
  unfolding holds
  holds_past l h = rw (le-leb base x l, le-ltb (x - base) size h)

  pub held_where : holds base size x ≡ true → (base ≤ x) × (x - base < size)
  unfolding holds
  held_where h =
      let w = (and-eq-true_iff (leb base x) (ltb (x - base) size)).0 h in
      (leb-true base x w.0, ltb-true (x - base) size w.1)
