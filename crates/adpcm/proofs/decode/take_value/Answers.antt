-- `adpcm::take_value` meets its contract: each operand is what the definition reads, and fits. Assumes nothing.
use mathlib.Core.Path.{◌≡◌, ◌∙◌}
use mathlib.Core.Bool.{Bool, true, false}
use Prim.Native.Nat.{ℕ, ◌+◌, ◌%◌, ◌<◌}
use borrow.Author.Tests.{le-leb, lt-leb}
use native.Mathlib.Omega.{arith}
use lib.IntN.{ℤ, pos}
use mathlib.Core.List.{List}
use lib.ListN.{get_or}
use mir.Syntax.{w16}
use mir.Val.{to_z, of_z}
use Rattle.adpcm.specs.Step.{step_of}
use Rattle.adpcm.specs.Decode.{value_of, half_of, pair_of, after}
use Rattle.adpcm.specs.declared.context.AdpcmContext.{AdpcmContext}
use Rattle.std.specs.Prelude.{Ok}
use Rattle.adpcm.proofs.Ints.{back}
use Rattle.adpcm.proofs.decode.take_value.Goals as goal
use Rattle.adpcm.proofs.decode.take_value.Goals.{After-step-s}

half_lt : (h : Bool) (b : ℕ) → b < 256 → half_of h b < 16
half_lt true b p = omega arith
half_lt false b p = omega arith

module _ (c : After-step-s) where
  abbrev x : AdpcmContext
  x = c.args.ctx

  abbrev k : List ℤ
  k = c.args.coefficients.now

  abbrev v : ℕ
  v = half_of c.args.high (get_or c.args.«data».now c.args.at 0)

  b0 : to_z w16 (of_z w16 x.history0) ≡ x.history0
  b0 = back w16 x.history0 (omega arith)

  b1 : to_z w16 (of_z w16 x.history1) ≡ x.history1
  b1 = back w16 x.history1 (omega arith)

  kc : to_z w16 (of_z w16 c.pair-c.result.0) ≡ get_or k (pair_of x.pred_scale) (pos 0)
  kc = back w16 c.pair-c.result.0 (omega arith) ∙ c.pair-c.ensures.first

  kd : to_z w16 (of_z w16 c.pair-c.result.1) ≡ get_or k (pair_of x.pred_scale + 1) (pos 0)
  kd = back w16 c.pair-c.result.1 (omega arith) ∙ c.pair-c.ensures.second

  sample : c.step-s.result ≡ (after v k x).history0
  sample = c.step-s.ensures ∙ (λ i. step_of (c.half-v.ensures i) (x.pred_scale % 16) (kc i) (kd i) (b0 i) (b1 i))

pub returns-then-data-at : goal.returns-then-data-at
unfolding value_of
returns-then-data-at c = simp (le-leb _ _ c.if-data-at.true)

pub step-s-requires : goal.step-s-requires
step-s-requires c =
    let b : c.half-v.result < 16 =
    rw c.half-v.ensures (half_lt c.args.high (get_or c.args.«data».now c.args.at 0) (omega (arith, c.type_inv.«data» c.args.at))) in
    omega arith

pub returns : goal.returns
unfolding value_of
returns c =
    let p = (goal.at.returns c).After-step-s in
    rw (b0 p, back w16 c.step-s.result c.step-s.type_inv, lt-leb _ _ c.if-data-at.false)
    (λ i. Ok (record { pred_scale = (x p).pred_scale; history0 = sample p i; history1 = (x p).history0 }))
