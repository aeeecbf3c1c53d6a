-- `adpcm::decode_frame` meets its contract: each turn takes the two samples of a byte. Assumes nothing.
use Prim.Native.Nat.{ℕ, ◌+◌, ◌*◌, ◌/◌, ◌%◌}
use mathlib.Core.Path.{◌≡◌, refl, sym, subst, ◌∙◌}
use mathlib.Core.List.{List}
use lib.IntN.{ℤ, pos}
use native.Mathlib.Omega.{arith}
use lib.ListN.{set, get_or, length-set}
use mir.Syntax.{w16}
use mir.Val.{SFits, to_z, of_z}
use Rattle.adpcm.specs.Step.{step_of}
use Rattle.adpcm.specs.Places.{nibble_of}
use Rattle.adpcm.specs.Decode.{pair_of, run_from, Decodes}
use Rattle.adpcm.specs.declared.context.AdpcmContext.{AdpcmContext}
use Rattle.adpcm.proofs.Ints.{back}
use Rattle.adpcm.proofs.Framed.{next, context, framed_begin, framed_more, framed_end}
use Rattle.adpcm.proofs.frame.decode_frame.Goals as goal
use Rattle.adpcm.proofs.frame.decode_frame.Goals.{After-step-low}

-- what the two steps give
module _ (c : After-step-low) where
  abbrev f : List ℕ
  f = c.args.frame.now

  abbrev k : List ℤ
  k = c.args.coefficients.now

  abbrev x : AdpcmContext
  x = c.loop-i.x

  b0 : to_z w16 (of_z w16 x.history0) ≡ x.history0
  b0 = back w16 x.history0 (c.loop-i.invariant.3 0).fits0.sfits

  b1 : to_z w16 (of_z w16 x.history1) ≡ x.history1
  b1 = back w16 x.history1 (c.loop-i.invariant.3 0).fits1.sfits

  kc : to_z w16 (of_z w16 c.pair-c.result.0) ≡ get_or k (pair_of (get_or f 0 0)) (pos 0)
  kc = back w16 c.pair-c.result.0 (omega arith) ∙ c.pair-c.ensures.first ∙ (λ i. get_or k (pair_of (c.from-header.ensures i)) (pos 0))

  kd : to_z w16 (of_z w16 c.pair-c.result.1) ≡ get_or k (pair_of (get_or f 0 0) + 1) (pos 0)
  kd = back w16 c.pair-c.result.1 (omega arith) ∙ c.pair-c.ensures.second ∙ (λ i. get_or k (pair_of (c.from-header.ensures i) + 1) (pos 0))

  -- the byte
  abbrev v : ℕ
  v = get_or f (c.loop-i.i + 1) 0

  abbrev a : ℤ
  a = to_z w16 (of_z w16 c.step-high.result)

  abbrev b : ℤ
  b = to_z w16 (of_z w16 c.step-low.result)

  high_is : next f k (v / 16) x.history0 x.history1 ≡ a
  high_is = sym (back w16 c.step-high.result c.step-high.type_inv ∙ c.step-high.ensures ∙ (λ i. step_of (v / 16) (c.from-header.ensures i % 16) (kc i) (kd i) (b0 i) (b1 i)))

  low_is : next f k (v % 16) a x.history0 ≡ b
  low_is = sym (back w16 c.step-low.result c.step-low.type_inv ∙ c.step-low.ensures ∙ (λ i. step_of (v % 16) (c.from-header.ensures i % 16) (kc i) (kd i) a (b0 i)))

pub loop-i-init : goal.loop-i-init
loop-i-init c =
    let f0 : SFits w16 c.args.ctx.history0 = omega arith in
    let f1 : SFits w16 c.args.ctx.history1 = omega arith in
    (omega arith, omega arith, refl, λ b. framed_begin _ _ _ _ (omega arith) (omega arith) (subst (SFits w16) (sym (back w16 c.args.ctx.history0 (omega arith))) f0) (subst (SFits w16) (sym (back w16 c.args.ctx.history1 (omega arith))) f1))

pub step-high-requires : goal.step-high-requires
step-high-requires c =
    omega (arith, c.type_inv.frame (c.loop-i.i + 1))

pub bounds-out-i-in-loop-i : goal.bounds-out-i-in-loop-i
bounds-out-i-in-loop-i c = simp length-set (omega arith)

pub loop-i-preserved : goal.loop-i-preserved
loop-i-preserved c =
    let s = (goal.at.loop-i-preserved c).After-step-low in
    let i = c.loop-i.i in
    let o = c.loop-i.out in (
      omega arith,
      length-set (set o (2 * i) _) (2 * i + 1) _ ∙ length-set o (2 * i) _ ∙ c.loop-i.invariant.1,
      refl,
      λ n. rw (c.from.ensures, c.from-in-loop-i.ensures) (framed_more _ _ _ _ c.requires.0 c.requires.1 o _ _ i (a s) (b s) (omega arith) (c.loop-i.invariant.3 n) (high_is s) (low_is s)),
    )

pub returns : goal.returns
unfolding nibble_of
returns c =
    let e = c.args.ctx in
    let x = c.loop-i.x in
    let b0 : to_z w16 (of_z w16 e.history0) ≡ e.history0 = back w16 e.history0 (omega arith) in
    let b1 : to_z w16 (of_z w16 e.history1) ≡ e.history1 = back w16 e.history1 (omega arith) in
    let b = e.pred_scale in
    let d : Decodes (run_from c.args.frame.now 0 c.args.coefficients.now 14 0 e) c.args.out.now c.loop-i.out 14 (context (get_or c.args.frame.now 0 0) x.history0 x.history1) =
    subst (λ (y : AdpcmContext). Decodes (run_from c.args.frame.now 0 c.args.coefficients.now 14 0 y) c.args.out.now c.loop-i.out 14 (context (get_or c.args.frame.now 0 0) x.history0 x.history1))
    (λ i. context b (b0 i) (b1 i))
    (framed_end _ _ _ _ c.requires.0 c.requires.1 _ _ _ c.loop-i.i (omega arith) (c.loop-i.invariant.3 b)) in
    subst (λ (h : ℕ). Decodes (run_from c.args.frame.now 0 c.args.coefficients.now 14 0 e) c.args.out.now c.loop-i.out 14 (context h x.history0 x.history1)) (sym (c.loop-i.invariant.2 ∙ c.from-header.ensures)) d
