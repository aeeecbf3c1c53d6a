-- A loop that changes each element of a list: the first i are done, and with the others done they are the whole. Assumes nothing.
use mathlib.Core.Path.{◌≡◌, refl, ap, sym, ◌∙◌}
use mathlib.Core.List.{List, ◌++◌, map, append-nil}
use Prim.Native.Nat.{ℕ, suc, ◌+◌, ◌≤◌, ◌<◌}
use native.Mathlib.Numerals.{add-one}
use native.Mathlib.Omega.{arith}
use lib.ListN.{length, take, drop, set, get_or, length-set}
use lib.Seq.{take-suc-set, drop-set-lt, drop-cons, append_snoc, take-length, drop-length}
use lib.Ieee.{Float, nan}

pub record Scaling (f : Float → Float) (xs₀ xs : List Float) (i : ℕ) : Type 0 where
  pub count : i ≤ length xs₀
  pub size : length xs ≡ length xs₀
  pub left : take i xs ++ map f (drop i xs) ≡ map f xs₀

pub begin : (f : Float → Float) (xs : List Float) → Scaling f xs xs 0
begin f xs = record { count = omega arith; size = refl; left = refl }

module _ {f : Float → Float} {xs₀ xs : List Float} {i : ℕ} (p : Scaling f xs₀ xs i) where
  pub more : i < length xs₀ → Scaling f xs₀ (set xs i (f (get_or xs i nan))) (i + 1)
  more h =
      let x = f (get_or xs i nan) in
      let b : i < length xs = omega (arith, p.size) in
      record {
        count = omega arith;
        size = length-set xs i x ∙ p.size;
        left = rw (add-one, take-suc-set xs i x b, drop-set-lt (suc i) xs i x (omega arith), append_snoc (take i xs) x (map f (drop (suc i) xs)))
            (sym (ap (λ (ys : List Float). take i xs ++ map f ys) (drop-cons xs i nan b)) ∙ p.left);
      }

  pub end : length xs₀ ≤ i → xs ≡ map f xs₀
  end h =
      let b : i ≡ length xs = omega (arith, p.count, p.size) in
      let q : take (length xs) xs ++ map f (drop (length xs) xs) ≡ map f xs₀ = rw b at p.left in
      sym (append-nil xs) ∙ (rw (take-length xs, drop-length xs) at q)
