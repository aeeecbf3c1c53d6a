-- The loop over a frame's samples: the sum so far and what is left to add are the whole. Assumes nothing.
use Prim.Native.Nat.{ℕ, suc, ◌+◌, ◌*◌, ◌≤◌, ◌<◌, min}
use mathlib.Core.Path.{◌≡◌, refl, sym, ap, ◌∙◌, subst}
use mathlib.Core.List.{List, [], ◌∷◌}
use native.Mathlib.Numerals.{add-one}
use native.Mathlib.Nat.{suc-mul}
use native.Mathlib.Omega.{arith}
use lib.IntN.{ℤ, pos}
use lib.ListN.{length, drop, get_or}
use lib.Seq.{drop-cons, drop-length}
use mir.Syntax.{w16}
use mir.Val.{SFits, to_z, of_z}
use mir.Facts.{to_z-of_z}
use Rattle.adpcm.specs.Step.{step_of, step_fits}
use Rattle.nearest.specs.Nearest.{difference_of, nearest_of, Chosen}
use Rattle.trial.specs.Trial.{most_square, nearest_sample, reconstructed_of, squared_error, sum_of}

-- what the machine reads back of a 16-bit number is one
pub fits_again : {z : ℤ} → SFits w16 z → SFits w16 (to_z w16 (of_z w16 z))
fits_again f = subst (SFits w16) (sym (to_z-of_z f)) f

module _ (s : ℕ) (c d : ℤ) where
  abbrev sum_from : List ℤ → ℤ → ℤ → ℕ
  sum_from = sum_of s c d

  sum_cons : (t : ℤ) (ts : List ℤ) (a b : ℤ)
      → let y = step_of (nearest_of t s c d a b) s c d a b in
      sum_from (t ∷ ts) a b ≡ difference_of t y * difference_of t y + sum_from ts y a
  unfolding squared_error reconstructed_of nearest_sample
  sum_cons t ts a b = refl

  sum_none : (a b : ℤ) → sum_from [] a b ≡ 0
  unfolding squared_error
  sum_none a b = refl

  module _ (ts : List ℤ) (h0 h1 : ℤ) where
    -- after i samples, the last two of which decode to a and b
    pub record Trying (a b : ℤ) (sum i : ℕ) : Type 0 where
      pub count : i ≤ length ts
      pub left : sum + sum_from (drop i ts) a b ≡ sum_from ts h0 h1
      pub most : sum ≤ i * most_square
      pub fits0 : SFits w16 a
      pub fits1 : SFits w16 b

    -- before the first sample
    pub try_begin : SFits w16 h0 → SFits w16 h1 → Trying h0 h1 0 0
    try_begin p q = record { count = omega arith; left = omega arith; most = omega arith; fits0 = p; fits1 = q }

    module _ (a b : ℤ) (sum i : ℕ) (p : Trying a b sum i) where
      -- the sum is at the limit or above: so is the whole
      pub try_cut : (limit : ℕ) → limit ≤ sum → limit ≡ min limit (sum_from ts h0 h1)
      try_cut limit h = omega (arith, p.left)

      -- the next sample x, as the code has it: its square q, and the sample w that goes on
      module _ (more : i < length ts) (x : ℤ) (is : x ≡ get_or ts i (pos 0)) (v : ℕ) (y : ℤ) (off : ℕ) (k : Chosen x s c d a b v y off) where
        abbrev rest : List ℤ
        rest = drop (suc i) ts

        left_more : (q : ℕ) → q ≡ off * off → sum + q + sum_from rest y a ≡ sum_from ts h0 h1
        left_more q eq =
            let e : sum_from (drop i ts) a b ≡ off * off + sum_from rest y a =
            ap (λ (l : List ℤ). sum_from l a b) (drop-cons ts i (pos 0) more)
            ∙ ap (λ (t : ℤ). sum_from (t ∷ rest) a b) (sym is)
            ∙ sum_cons x rest a b
            ∙ (λ j. sym k.difference_is j * sym k.difference_is j + sum_from rest (sym k.sample_is j) a) in
            omega (arith, e, eq, p.left)

        -- after one sample more
        pub try_more : (q : ℕ) → q ≡ off * off → (w : ℤ) → w ≡ y → q ≤ most_square → Trying w a (sum + q) (i + 1)
        try_more q eq w ew h = record {
          count = omega arith;
          left = rw add-one (ap (λ (z : ℤ). sum + q + sum_from rest z a) ew ∙ left_more q eq);
          most = omega (arith, suc-mul i most_square, add-one i, p.most);
          fits0 = rw (ew, k.sample_is) (step_fits _ _ _ _ _ _);
          fits1 = p.fits0;
        }

      -- all samples are tried
      pub try_end : (limit : ℕ) → length ts ≤ i → min sum limit ≡ min limit (sum_from ts h0 h1)
      try_end limit h =
          let e : i ≡ length ts = omega (arith, p.count) in
          let z : sum_from (drop i ts) a b ≡ 0 =
          ap (λ (n : ℕ). sum_from (drop n ts) a b) e ∙ ap (λ (l : List ℤ). sum_from l a b) (drop-length ts) ∙ sum_none a b in
          omega (arith, p.left, z)
