-- A loop that takes the steps of `up_to` one by one, and what each of them keeps, in any state. Assumes nothing.
use Rattle.std.specs.Prelude.{◌≡◌}
use Rattle.std.proofs.Math.Path.{refl}
use Rattle.std.proofs.Common.{sym, ap, subst, ◌∙◌, arith}
use Prim.Native.Nat.{ℕ, zero, suc, ◌+◌, ◌≤◌, ◌<◌}
use Rattle.rows.specs.Folds.{up_to, up_to_more}

module _ {ℓ ℓ'} {S : Type ℓ} (keeps : S → Type ℓ') (step : ℕ → S → S) (n : ℕ) where
  -- what each of the first n steps keeps, they keep all together
  pub up_to_keeps : ((k : ℕ) (st : S) → k < n → keeps st → keeps (step k st)) → (k : ℕ) (st : S) → k ≤ n → keeps st → keeps (up_to step k st)
  unfolding up_to
  up_to_keeps f zero st h p = p
  up_to_keeps f (suc k) st h p = f k (up_to step k st) h (up_to_keeps f k st (omega arith) p)

  -- after k of n turns
  pub record Turning (st₀ st : S) (k : ℕ) : Type (ℓ ⊔ ℓ') where
    pub upto : k ≤ n
    pub kept : keeps st
    pub done : st ≡ up_to step k st₀

  pub turn_begin : (st : S) → keeps st → Turning st st 0
  unfolding up_to
  turn_begin st p = record { upto = omega arith; kept = p; done = refl }

module _ {ℓ ℓ'} {S : Type ℓ} {keeps : S → Type ℓ'} {step : ℕ → S → S} {n : ℕ} {st₀ st : S} {k : ℕ} (p : Turning keeps step n st₀ st k) where
  pub turn_more : {u : S} → k < n → (keeps st → keeps (step k st)) → u ≡ step k st → Turning keeps step n st₀ u (k + 1)
  turn_more {u} h f e = record {
    upto = omega arith;
    kept = subst keeps (sym e) (f p.kept);
    done = e ∙ ap (step k) p.done ∙ up_to_more step k st₀;
  }

  -- after all of them, m
  pub turn_end : {m : ℕ} → n ≤ k → n ≡ m → st ≡ up_to step m st₀
  turn_end {m} h q =
      let e : k ≡ m = omega (arith, p.upto) in
      p.done ∙ ap (λ (j : ℕ). up_to step j st₀) e
