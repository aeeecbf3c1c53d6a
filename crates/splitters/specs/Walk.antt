-- A walk over records that follow one another: a step for each, as long as one is found, and at most `count` steps. Assumes nothing.
use Rattle.std.specs.Prelude.{◌≡◌, Bool}
use Rattle.std.proofs.Math.Path.{ap}
use Rattle.std.proofs.Common.{sym, ◌∙◌, arith}
use Rattle.std.proofs.Math.Bool.{true, false}
use Prim.Native.Nat.{ℕ, zero, suc, ◌+◌, ◌-◌, ◌≤◌, ◌<◌}

module _ {ℓ} {S : Type ℓ} where
  -- at most n steps from s, where the Bool says whether a record is found there
  unfoldable pub steps : (S → Bool) → (S → S) → Bool → ℕ → S → S
  steps found step found_Here zero s = s
  steps found step false (suc n) s = s
  steps found step true (suc n) s = let t = step s in steps found step (found t) n t

  abbrev pub walk : (S → Bool) → (S → S) → ℕ → S → S
  walk found step count s = steps found step (found s) count s

  -- what every step keeps
  pub steps_keep {ℓ'} : (found : S → Bool) (step : S → S) (P : S → Type ℓ') → ((s : S) → P s → P (step s))
      → (here : Bool) (n : ℕ) (s : S) → P s → P (steps found step here n s)
  unfolding steps
  steps_keep found step P keeps here zero s p = p
  steps_keep found step P keeps false (suc n) s p = p
  steps_keep found step P keeps true (suc n) s p = steps_keep found step P keeps (found (step s)) n (step s) (keeps s p)

-- ---- a loop that takes the steps, after k of them: what is left, walked from here, is the whole

pub record Walking {ℓ} {S : Type ℓ} (found : S → Bool) (step : S → S) (count : ℕ) (s₀ s : S) (k : ℕ) : Type ℓ where
  pub taken : k ≤ count
  pub whole : walk found step (count - k) s ≡ walk found step count s₀

pub walk_begin {ℓ} : {S : Type ℓ} {found : S → Bool} {step : S → S} {count : ℕ} {s : S} → Walking found step count s s 0
walk_begin {found = found} {step = step} {count = count} {s = s} =
    let all : count - 0 ≡ count = omega arith in
    record { taken = omega arith; whole = ap (λ (n : ℕ). walk found step n s) all }

module _ {ℓ} {S : Type ℓ} {found : S → Bool} {step : S → S} {count : ℕ} {s₀ s : S} {k : ℕ} (g : Walking found step count s₀ s k) where
  -- n steps are left
  left_is : (n : ℕ) → count - k ≡ n → steps found step (found s) n s ≡ walk found step count s₀
  left_is n e = ap (λ (m : ℕ). walk found step m s) (sym e) ∙ g.whole

  pub walk_more : {t : S} → k < count → found s ≡ true → t ≡ step s → Walking found step count s₀ t (k + 1)
  unfolding steps
  walk_more h f e =
      record {
        taken = omega arith;
        whole = ap (walk found step (count - (k + 1))) e
            ∙ ap (λ (b : Bool). steps found step b (suc (count - (k + 1))) s) (sym f)
            ∙ left_is (suc (count - (k + 1))) (omega arith);
      }

  pub walk_stop : k < count → found s ≡ false → s ≡ walk found step count s₀
  unfolding steps
  walk_stop h f =
      ap (λ (b : Bool). steps found step b (suc (count - (k + 1))) s) (sym f) ∙ left_is (suc (count - (k + 1))) (omega arith)

  pub walk_end : count ≤ k → s ≡ walk found step count s₀
  unfolding steps
  walk_end h = left_is zero (omega arith)
