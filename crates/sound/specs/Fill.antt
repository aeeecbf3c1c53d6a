-- Loops that fill the front of a list with computed values. Assumes nothing.
use Prim.Native.Nat.{ℕ, zero, suc, ◌+◌, ◌≤◌, ◌<◌}
use Rattle.std.proofs.Common.{add-one, ◌∙◌, length-drop, drop-cons}
use native.Mathlib.Omega.{arith}
use mathlib.Core.List.{List, [], ◌∷◌, ◌++◌}
use Rattle.std.specs.Prelude.{◌≡◌, length, drop, set}
use Rattle.std.proofs.Math.Path.{refl, ap, sym}
use Rattle.std.proofs.Math.ListN.{replicate, length-append, replicate-append-replicate}
use Rattle.std.proofs.lemmas.List.{set_at}
use Rattle.std.proofs.Math.Seq.{append_snoc}

module _ {A : Type 0} where
  -- f 0, f 1, .. f (n - 1)
  unfoldable pub tab : ℕ → (ℕ → A) → List A
  tab zero f = []
  tab (suc n) f = tab n f ++ (f n ∷ [])

  pub length_tab : (n : ℕ) (f : ℕ → A) → length (tab n f) ≡ n
  unfolding tab
  length_tab zero f = refl
  length_tab (suc n) f = simp length-append (omega (arith, length_tab n f))

  pub tab_same : (n : ℕ) (a : A) → tab n (λ (k : ℕ). a) ≡ replicate n a
  unfolding tab
  tab_same zero a = refl
  tab_same (suc n) a =
      let e : n + 1 ≡ suc n = omega arith in
      ap (λ (l : List A). l ++ (a ∷ [])) (tab_same n a) ∙ replicate-append-replicate n 1 a ∙ ap (λ (k : ℕ). replicate k a) e

  -- the first k of n are filled
  pub record Filled (f : ℕ → A) (n : ℕ) (before now : List A) (k : ℕ) : Type 0 where
    pub below : k ≤ n
    pub fits : n ≤ length before
    pub made : now ≡ tab k f ++ drop k before

  pub filled_none : (f : ℕ → A) (n : ℕ) (before : List A) → n ≤ length before → Filled f n before before 0
  unfolding tab
  filled_none f n before h = record { below = omega arith; fits = h; made = refl }

  pub filled_length : {f : ℕ → A} {n k : ℕ} {before now : List A} → Filled f n before now k → length now ≡ length before
  filled_length {f} {n} {k} {before} {now} r = rw (r.made, length-append, length_tab, length-drop) (omega (arith, r.below, r.fits))

  tab_more : (k : ℕ) (f : ℕ → A) (l : List A) → tab k f ++ (f k ∷ l) ≡ tab (suc k) f ++ l
  unfolding tab
  tab_more k f l = sym (append_snoc (tab k f) (f k) l)

  pub filled_more : {f : ℕ → A} {n k : ℕ} {before now : List A} {v : A} → Filled f n before now k → k < n → v ≡ f k → Filled f n before (set now k v) (k + 1)
  filled_more {f} {n} {k} {before} {now} {v} r h e = record {
    below = omega arith;
    fits = r.fits;
    made = (λ i. set ((r.made ∙ ap (λ (l : List A). tab k f ++ l) (drop-cons before k v (omega (arith, r.fits)))) i) k (e i))
        ∙ set_at (tab k f) _ (drop (suc k) before) (f k) k (length_tab k f)
        ∙ tab_more k f (drop (suc k) before)
        ∙ (λ i. tab (sym (add-one k) i) f ++ drop (sym (add-one k) i) before);
  }

  pub filled_all : {f : ℕ → A} {n k : ℕ} {before now : List A} → Filled f n before now k → n ≤ k → now ≡ tab n f ++ drop n before
  filled_all {f} {n} {k} {before} r h = let e : k ≡ n = omega (arith, r.below) in r.made ∙ (λ i. tab (e i) f ++ drop (e i) before)
