-- A loop that takes only each w-th of n steps, from step c on, where the other steps do nothing: `skip(c).step_by(w)`. Assumes nothing.
use Rattle.std.specs.Prelude.{◌≡◌}
use Rattle.std.proofs.Common.{sym, ap, subst, ◌∙◌, div-add-mod', mul-le-mul_right, suc-mul, lt_of_not-le, arith}
use Prim.Native.Nat.{ℕ, zero, suc, ◌+◌, ◌-◌, ◌*◌, ◌/◌, ◌%◌, ◌≤◌, ◌<◌}
use Rattle.std.proofs.Math.Nat.{mod-eq_of_lt, add-mod_right, add-suc, add-zero}
use Rattle.rows.specs.Folds.{up_to, up_to_more}

-- two numbers that are apart, by less than w, leave two remainders
apart : (w k i : ℕ) → k < i → i < k + w → i % w ≡ k % w → ⊥
apart w k i h g e =
    let a : i / w * w + i % w ≡ i = div-add-mod' i w in
    let b : k / w * w + k % w ≡ k = div-add-mod' k w in
    let l : k / w < i / w = lt_of_not-le (λ (q : i / w ≤ k / w). let m : i / w * w ≤ k / w * w = mul-le-mul_right w q in omega arith) in
    let m : suc (k / w) * w ≤ i / w * w = mul-le-mul_right w l in
    omega (arith, suc-mul (k / w) w)

-- steps that do nothing
module _ {S : Type 0} (step : ℕ → S → S) (c w : ℕ) (idle : (k : ℕ) (st : S) → (k % w ≡ c → ⊥) → step k st ≡ st) where
  idle_run : (st : S) (a d : ℕ) → ((i : ℕ) → a ≤ i → i < a + d → i % w ≡ c → ⊥) → up_to step (a + d) st ≡ up_to step a st
  unfolding up_to
  idle_run st a zero f = rw add-zero
  idle_run st a (suc d) f =
      rw add-suc (idle (a + d) (up_to step (a + d) st) (f (a + d) (omega arith) (omega arith)))
      ∙ idle_run st a d (λ (i : ℕ) (h : a ≤ i) (g : i < a + d). f i h (omega arith))

  idle_to : (st : S) (a j : ℕ) → a ≤ j → ((i : ℕ) → a ≤ i → i < j → i % w ≡ c → ⊥) → up_to step a st ≡ up_to step j st
  idle_to st a j h f =
      let e : a + (j - a) ≡ j = omega arith in
      sym (idle_run st a (j - a) (λ (i : ℕ) (g : a ≤ i) (l : i < a + (j - a)). f i g (omega arith))) ∙ ap (λ (x : ℕ). up_to step x st) e

module _ {S : Type 0} (keeps : S → Type 0) (step : ℕ → S → S) (c w n : ℕ) where
  -- at step k: the state is the one after j steps, for each j from which k is the next that does something
  pub record Striding (st₀ st : S) (k : ℕ) : Type 0 where
    pub upto : k < n + w
    pub place : k % w ≡ c
    pub kept : keeps st
    pub done : (j : ℕ) → j ≤ k → k < j + w → st ≡ up_to step j st₀

  module _ (idle : (k : ℕ) (st : S) → (k % w ≡ c → ⊥) → step k st ≡ st) where
    pub stride_begin : (st : S) → c < w → keeps st → Striding st st c
    unfolding up_to
    stride_begin st h p = record {
      upto = omega arith;
      place = mod-eq_of_lt h;
      kept = p;
      done = λ j l _. idle_to step c w idle st 0 j (omega arith)
          (λ (i : ℕ) (a : 0 ≤ i) (b : i < j) (e : i % w ≡ c). omega (arith, mod-eq_of_lt {n = i} {m = w} (omega arith)));
    }

    pub stride_more : {st₀ st : S} {k : ℕ} → Striding st₀ st k → {u : S} → c < w → k < n → (keeps st → keeps (step k st)) → u ≡ step k st → Striding st₀ u (k + w)
    stride_more {st₀} {st} {k} p {u} b h f e = record {
      upto = omega arith;
      place = add-mod_right k w ∙ p.place;
      kept = subst keeps (sym e) (f p.kept);
      done = λ j l g. e ∙ ap (step k) (p.done k (omega arith) (omega arith)) ∙ up_to_more step k st₀
          ∙ idle_to step c w idle st₀ (k + 1) j (omega arith)
          (λ (i : ℕ) (y : k + 1 ≤ i) (z : i < j) (q : i % w ≡ c). apart w k i (omega arith) (omega arith) (q ∙ sym p.place));
    }

  pub stride_end : {st₀ st : S} {k : ℕ} → Striding st₀ st k → n ≤ k → st ≡ up_to step n st₀
  stride_end p h = p.done n h p.upto
