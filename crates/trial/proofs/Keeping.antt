-- The loop over the 128 headers: no header so far has a sum below the limit, and where the limit has fallen below the first one, the header
-- kept is the first with that sum. Assumes nothing.
use Prim.Native.Nat.{ℕ, suc, ◌+◌, ◌≤◌, ◌<◌, min}
use mathlib.Core.Path.{◌≡◌, refl, ap, ◌∙◌}
use mathlib.Core.Bool.{Bool, true, false, cond}
use mathlib.Core.List.{List}
use mathlib.Core.Logic.{⊎_elim}
use native.Mathlib.Nat.{eq-or-lt_of_le}
use native.Mathlib.Numerals.{add-one}
use native.Mathlib.Omega.{arith}
use borrow.Author.Tests.{ltb-true, ltb-false}
use lib.Dec.{ltb}
use lib.IntN.{ℤ}
use Rattle.nearest.specs.Least.{First}
use Rattle.nearest.proofs.Least.{first_least}
use Rattle.trial.specs.Trial.{error_of, kept_of}
use Rattle.trial.specs.Kept.{better_of, Keeps}
use Rattle.trial.specs.declared.Kept.{Kept}

module _ (f : ℕ → ℕ) where
  -- the first of the headers below b with the sum `error`
  pub record FirstBelow (b header error : ℕ) : Type 0 where
    pub within : header < b
    pub sum : error ≡ f header
    pub first : (k : ℕ) → k < header → f header < f k

  -- of the headers below b, with the limit that the loop began with
  pub record Keeping (limit : ℕ) (kept : Kept) (b : ℕ) : Type 0 where
    pub few : b ≤ 128
    pub under : kept.error ≤ limit
    pub least : (k : ℕ) → k < b → kept.error ≤ f k
    pub found : kept.error < limit → FirstBelow b kept.header kept.error

  -- before the first header
  pub keep_begin : (kept : Kept) → Keeping kept.error kept 0
  keep_begin kept = record {
    few = omega arith;
    under = omega arith;
    least = λ k h. absurd (omega arith);
    found = λ h. absurd (omega arith);
  }

  module _ (limit : ℕ) (kept : Kept) (b e : ℕ) (p : Keeping limit kept b) (is : e ≡ min kept.error (f b)) where
    -- a fact of the header b and of those below it
    each : {n : ℕ} → n ≤ f b → n ≤ kept.error → (k : ℕ) → k < suc b → n ≤ f k
    each {n} l m k h = ⊎_elim own below (eq-or-lt_of_le h)
      where
        own : suc k ≡ suc b → n ≤ f k
        own q = let r : b ≡ k = omega arith in rw (← r) l

        below : suc k < suc b → n ≤ f k
        below q = omega (arith, p.least k (omega arith))

    by_case : b < 128 → (t : Bool) → ltb e kept.error ≡ t
        → Keeping limit (record { header = cond t b kept.header; error = cond t e kept.error }) (suc b)
    by_case more true q =
        let less : e < kept.error = ltb-true e kept.error q in
        let own : e ≡ f b = omega arith in
        record {
          few = omega arith;
          under = omega (arith, p.under);
          least = each (omega (arith, own)) (omega arith);
          found = λ h. record { within = omega arith; sum = own; first = λ k l. omega (arith, own, p.least k l) };
        }
    by_case more false q =
        let not : kept.error ≤ e = ltb-false e kept.error q in
        record {
          few = omega arith;
          under = p.under;
          least = each (omega arith) (omega arith);
          found = λ h. (let g = p.found h in record { within = omega (arith, g.within); sum = g.sum; first = g.first });
        }

    -- after the header b, whose sum is taken up to the sum of the one kept
    pub keep_more : (new : Kept) → b < 128 → new ≡ better_of kept b e → Keeping limit new (b + 1)
    keep_more new more n = rw (n, add-one) (by_case more (ltb e kept.error) refl)

-- a limit above the sum of one of the headers: that sum, or a lower one, was found
pub keep_end : (k ts : List ℤ) (h0 h1 : ℤ) (seed limit : ℕ) (kept : Kept) (b : ℕ) → seed < 128 → error_of k ts h0 h1 seed < limit → 128 ≤ b
    → Keeping (error_of k ts h0 h1) limit kept b → Keeps k ts h0 h1 kept.header kept.error
unfolding kept_of
keep_end k ts h0 h1 seed limit kept b s l h p =
    let f = error_of k ts h0 h1 in
    let g = p.found (omega (arith, p.least seed (omega arith))) in
    let best : First f 127 kept.header = record {
      within = omega (arith, p.few, g.within);
      least = λ j q. omega (arith, g.sum, p.least j (omega arith));
      first = g.first;
    } in
    let e : kept.header ≡ kept_of k ts h0 h1 = first_least f 127 kept.header best in
    record { header_is = e; error_is = g.sum ∙ ap f e; below = omega (arith, best.within) }

-- the same of equal histories
pub keeps_by : {k ts : List ℤ} {h0 h0' h1 h1' : ℤ} {header error : ℕ} → h0 ≡ h0' → h1 ≡ h1' → Keeps k ts h0 h1 header error
    → Keeps k ts h0' h1' header error
keeps_by {k} {ts} e g p = record {
  header_is = p.header_is ∙ (λ i. kept_of k ts (e i) (g i));
  error_is = p.error_is ∙ (λ i. error_of k ts (e i) (g i) (kept_of k ts (e i) (g i)));
  below = p.below;
}
