-- Laws of a run of samples, and the loop's invariant. Assumes nothing.
use mathlib.Core.Path.{◌≡◌, refl, sym, ap, ◌∙◌}
use mathlib.Core.List.{List, [], ◌∷◌, ◌++◌, append_assoc, append-nil}
use Prim.Native.Nat.{ℕ, zero, suc, ◌+◌, ◌-◌, ◌≤◌, ◌<◌}
use native.Mathlib.Nat.{add-zero, sub-zero}
use native.Mathlib.Numerals.{add-one}
use native.Mathlib.Omega.{arith}
use lib.Ieee.{Float, binary32, of_int}
use lib.IntN.{ℤ}
use lib.ListN.{length, take, drop, set, length-set, length-map, take-append-drop}
use lib.Seq.{take-suc-set, drop-set-lt, drop-drop, length-take-le}
use Rattle.adpcm.specs.Decode.{took_of, Run, run_from, floated, Decodes}
use Rattle.adpcm.specs.declared.context.AdpcmContext.{AdpcmContext}
use Rattle.std.specs.Prelude.{Ok, Err}

-- after `done` samples of a run of `count` from `start` on: what is left is a run from there
pub record Going (s : List ℕ) (base : ℕ) (k : List ℤ) (count start : ℕ) (x₀ : AdpcmContext) (out₀ out : List Float) (x : AdpcmContext) (done : ℕ) : Type 0 where
  pub le : done ≤ count
  pub size : length out ≡ length out₀
  pub samples : floated (run_from s base k count start x₀).samples ≡ take done out ++ floated (run_from s base k (count - done) (start + done) x).samples
  pub context : (run_from s base k count start x₀).context ≡ (run_from s base k (count - done) (start + done) x).context
  pub rest : drop done out ≡ drop done out₀

module _ (s : List ℕ) (base : ℕ) (k : List ℤ) where
  -- the run's first sample, by what it took
  pub run_got : (n m : ℕ) (x y : AdpcmContext) → took_of s base k m x ≡ Ok y
      → run_from s base k (suc n) m x ≡ record { samples = y.history0 ∷ (run_from s base k n (m + 1) y).samples; context = (run_from s base k n (m + 1) y).context }
  unfolding run_from
  run_got n m x y e = rw e

  pub run_short : (n m : ℕ) (x y : AdpcmContext) → took_of s base k m x ≡ Err y → run_from s base k (suc n) m x ≡ record { samples = []; context = y }
  unfolding run_from
  run_short n m x y e = rw e

  module _ (count start : ℕ) (x₀ : AdpcmContext) (out₀ : List Float) where
    pub begin : Going s base k count start x₀ out₀ out₀ x₀ 0
    begin = record {
      le = omega arith;
      size = refl;
      samples = rw (sub-zero, add-zero);
      context = rw (sub-zero, add-zero);
      rest = refl;
    }

    pub more : (out : List Float) (x y : AdpcmContext) (done : ℕ) → count ≤ length out₀ → done < count
        → Going s base k count start x₀ out₀ out x done → took_of s base k (start + done) x ≡ Ok y
        → Going s base k count start x₀ out₀ (set out done (of_int binary32 y.history0)) y (done + 1)
    more out x y done fits h g e =
        let n = count - (done + 1) in
        let left : count - done ≡ suc n = omega arith in
        let at : start + done + 1 ≡ start + (done + 1) = omega arith in
        let inside : done < length out = omega (arith, g.size) in
        let run : run_from s base k (count - done) (start + done) x ≡ record { samples = y.history0 ∷ (run_from s base k n (start + (done + 1)) y).samples; context = (run_from s base k n (start + (done + 1)) y).context } =
        rw (left, run_got n (start + done) x y e, at) in
        record {
          le = omega arith;
          size = length-set out done (of_int binary32 y.history0) ∙ g.size;
          samples = g.samples ∙ ap (λ (r : Run). take done out ++ floated r.samples) run
              ∙ sym (rw (add-one, take-suc-set out done (of_int binary32 y.history0) inside, append_assoc));
          context = g.context ∙ ap (λ (r : Run). r.context) run;
          rest = drop-set-lt (done + 1) out done (of_int binary32 y.history0) (omega arith)
              ∙ sym (drop-drop 1 done out) ∙ ap (drop 1) g.rest ∙ drop-drop 1 done out₀;
        }

    -- where nothing is left, or the bytes ran out: what the decode left is the run
    pub ended : (out : List Float) (x y : AdpcmContext) (done : ℕ) → count ≤ length out₀
        → Going s base k count start x₀ out₀ out x done
        → run_from s base k (count - done) (start + done) x ≡ record { samples = []; context = y }
        → Decodes (run_from s base k count start x₀) out₀ out done y
    ended out x y done fits g e =
        let all : floated (run_from s base k count start x₀).samples ≡ take done out =
        g.samples ∙ ap (λ (r : Run). take done out ++ floated r.samples) e ∙ append-nil (take done out) in
        let n : length (run_from s base k count start x₀).samples ≡ done =
        sym (length-map (run_from s base k count start x₀).samples (of_int binary32)) ∙ ap length all ∙ length-take-le done out (omega (arith, g.size, g.le)) in
        record {
          count = sym n;
          context = sym (g.context ∙ ap (λ (r : Run). r.context) e);
          output = sym (take-append-drop done out) ∙ ap (λ (l : List Float). l ++ drop done out) (sym all)
              ∙ ap (λ (l : List Float). floated (run_from s base k count start x₀).samples ++ l) (g.rest ∙ ap (λ (j : ℕ). drop j out₀) (sym n));
        }

    pub cut : (out : List Float) (x y : AdpcmContext) (done : ℕ) → count ≤ length out₀ → done < count
        → Going s base k count start x₀ out₀ out x done → took_of s base k (start + done) x ≡ Err y
        → Decodes (run_from s base k count start x₀) out₀ out done y
    cut out x y done fits h g e =
        let left : count - done ≡ suc (count - (done + 1)) = omega arith in
        ended out x y done fits g (rw left (run_short (count - (done + 1)) (start + done) x y e))

    pub whole : (out : List Float) (x : AdpcmContext) (done : ℕ) → count ≤ length out₀ → count ≤ done
        → Going s base k count start x₀ out₀ out x done
        → Decodes (run_from s base k count start x₀) out₀ out done x
    unfolding run_from
    whole out x done fits h g =
        let left : count - done ≡ zero = omega arith in
        ended out x x done fits g (rw left refl)
