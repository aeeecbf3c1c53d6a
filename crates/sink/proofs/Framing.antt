-- A loop that writes frames: the first i of them are there, and what lies beyond is as it was. Assumes nothing.
use mathlib.Core.Path.{◌≡◌, refl, ap, sym, ◌∙◌}
use mathlib.Core.List.{List, [], ◌∷◌, ◌++◌, append_assoc}
use Prim.Native.Nat.{ℕ, suc, ◌+◌, ◌*◌, ◌≤◌, ◌<◌}
use native.Mathlib.Numerals.{add-one}
use native.Mathlib.Omega.{arith}
use lib.ListN.{length, drop, set, length-append, length-set}
use lib.Seq.{drop-cons, set_at}
use lib.Ieee.{Float, nan}
use Rattle.sink.specs.Sink.{to_unit, frames}
use Rattle.sink.specs.Laws.{length_frames}

-- n frames are to be written, with the samples l and r
pub record Framing (l r : ℕ → Float) (n : ℕ) (out₀ out : List Float) (i : ℕ) : Type 0 where
  pub count : i ≤ n
  pub size : length out ≡ length out₀
  pub done : out ≡ frames l r i ++ drop (2 * i) out₀

pub begin : (l r : ℕ → Float) (n : ℕ) (out : List Float) → Framing l r n out out 0
unfolding frames
begin l r n out = record { count = omega arith; size = refl; done = refl }

-- two samples stored where p ends
pair_at : (p d : List Float) (a b x y : Float) (k : ℕ) → length p ≡ k → set (set (p ++ a ∷ b ∷ d) k x) (k + 1) y ≡ (p ++ (x ∷ y ∷ [])) ++ d
pair_at p d a b x y k h =
    let e : length (p ++ (x ∷ [])) ≡ k + 1 = length-append p (x ∷ []) ∙ ap (λ (j : ℕ). j + 1) h in
    ap (λ (z : List Float). set z (k + 1) y) (set_at p a (b ∷ d) x k h ∙ sym (append_assoc p (x ∷ []) (b ∷ d)))
    ∙ set_at (p ++ (x ∷ [])) b d y (k + 1) e
    ∙ append_assoc p (x ∷ []) (y ∷ d)
    ∙ sym (append_assoc p (x ∷ y ∷ []) d)

module _ {l r : ℕ → Float} {n : ℕ} {out₀ out : List Float} {i : ℕ} (p : Framing l r n out₀ out i) where
  module _ (h : i < n) (fits : 2 * n ≤ length out₀) where
    pub room : 2 * i + 2 ≤ length out
    room = omega (arith, p.size)

    written : set (set out (2 * i) (to_unit (l i))) (2 * i + 1) (to_unit (r i)) ≡ frames l r (i + 1) ++ drop (2 * (i + 1)) out₀
    unfolding frames
    written =
        let e : 2 * (i + 1) ≡ suc (suc (2 * i)) = omega arith in
        let g : 2 * i + 2 ≤ length out₀ = omega arith in
        rw (p.done, e, add-one i, drop-cons out₀ (2 * i) nan (omega arith), drop-cons out₀ (suc (2 * i)) nan (omega arith))
        (pair_at (frames l r i) (drop (suc (suc (2 * i))) out₀) _ _ (to_unit (l i)) (to_unit (r i)) (2 * i) (length_frames l r i))

    -- frame i is written
    pub more : (x y : Float) (out' : List Float) → x ≡ l i → y ≡ r i → out' ≡ set (set out (2 * i) (to_unit x)) (2 * i + 1) (to_unit y)
        → Framing l r n out₀ out' (i + 1)
    more x y out' ex ey e =
        record {
          count = omega arith;
          size = ap length e ∙ length-set (set out (2 * i) (to_unit x)) (2 * i + 1) (to_unit y) ∙ length-set out (2 * i) (to_unit x) ∙ p.size;
          done = e ∙ (λ j. set (set out (2 * i) (to_unit (ex j))) (2 * i + 1) (to_unit (ey j))) ∙ written;
        }

  pub end : n ≤ i → out ≡ frames l r n ++ drop (2 * n) out₀
  end h =
      let e : i ≡ n = omega (arith, p.count) in
      rw e at p.done
