-- The invariant of a loop that fills: the first k outputs stand in out, and the rest is as it was. Assumes nothing.
use Rattle.std.proofs.Common.{◌≡◌, ℕ, ◌+◌, ◌<◌, ◌≤◌, List, [], ◌∷◌, ◌++◌, length, take, drop, set, sym, refl, ap, ◌∙◌, subst, add-one, arith, length-set, take-append-drop, take-suc-set, drop-set-lt}
use lib.Ieee.{Float}
use Rattle.resample.specs.Defs.{sample_at, samples}

pub record Filling (points : List Float) (ratio fraction : Float) (count : ℕ) (out₀ out : List Float) (k : ℕ) : Type 0 where
  pub le : k ≤ count
  pub size : length out ≡ length out₀
  pub made : take k out ≡ samples points ratio fraction k
  pub rest : (j : ℕ) → k ≤ j → drop j out ≡ drop j out₀

module _ (points : List Float) (ratio fraction : Float) (count : ℕ) (out₀ : List Float) where
  pub begin : Filling points ratio fraction count out₀ out₀ 0
  unfolding samples
  begin = record { le = omega arith; size = refl; made = refl; rest = λ j h. refl }

  pub more : (out : List Float) (k : ℕ) (v : Float) → count ≤ length out₀ → k < count → Filling points ratio fraction count out₀ out k
      → v ≡ sample_at points ratio fraction k → Filling points ratio fraction count out₀ (set out k v) (k + 1)
  unfolding samples
  more out k v fits h f e =
      let l : k < length out = omega (arith, f.size) in
      record {
        le = omega arith;
        size = length-set out k v ∙ f.size;
        made = ap (λ (n : ℕ). take n (set out k v)) (add-one k)
            ∙ take-suc-set out k v l
            ∙ (λ i. f.made i ++ (e i ∷ []))
            ∙ sym (ap (samples points ratio fraction) (add-one k));
        rest = λ j b. drop-set-lt j out k v (omega arith) ∙ f.rest j (omega arith);
      }

  pub whole : (out : List Float) (k : ℕ) → count ≤ k → Filling points ratio fraction count out₀ out k
      → out ≡ samples points ratio fraction count ++ drop count out₀
  whole out k h f =
      let e : k ≡ count = omega (arith, f.le) in
      sym (take-append-drop count out)
      ∙ (λ i. subst (λ (n : ℕ). take n out ≡ samples points ratio fraction n) e f.made i ++ f.rest count f.le i)
