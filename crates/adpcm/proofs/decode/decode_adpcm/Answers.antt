-- `adpcm::decode_adpcm` meets its contract: after each sample or whole frame, what is left is a run from there. Assumes nothing.
use mathlib.Core.Path.{◌≡◌, sym, subst, ◌∙◌, ap}
use Prim.Native.Nat.{ℕ, ◌+◌, ◌-◌, ◌%◌, ◌/◌, ◌≤◌}
use native.Mathlib.Omega.{arith}
use lib.Dec.{T}
use lib.ListN.{length}
use mir.Syntax.{w16}
use Rattle.adpcm.specs.Places.{nibble_of, nibble_mono}
use Rattle.adpcm.specs.Decode.{Decodes, took_of, run_from}
use Rattle.adpcm.proofs.Ints.{back}
use Rattle.adpcm.proofs.Going.{begin, more, cut, whole}
use Rattle.adpcm.proofs.Frames.{run_frame}
use Rattle.adpcm.proofs.Framed.{ahead_by}
use Rattle.adpcm.proofs.decode.decode_adpcm.Goals as goal
use Rattle.adpcm.proofs.decode.decode_adpcm.Goals.{After-plus-m, After-take_one, Then-begins_frame}

-- the sample's byte is not before the slice's first
from_base : (c : After-plus-m) → c.adpcm_nibble_byte-base.result.0 ≤ nibble_of c.plus-m.result.0 / 2
from_base c =
    omega (arith, nibble_mono c.args.start.0 c.plus-m.result.0 (omega (arith, c.plus-m.ensures)), c.adpcm_nibble_byte-base.ensures)

-- what the test for a whole frame says
framed : (c : Then-begins_frame) →
    (c.plus-m.result.0 % 14 ≡ 0) × (c.index_from-at.result + 8 ≤ length c.args.«data».now) × (c.loop-done.done + 14 ≤ c.args.count)
framed c = c.begins_frame.ensures (subst T (sym c.if-begins_frame.true) tt)

-- what the sample took, of the place as the run has it
took : (c : After-take_one) →
    took_of c.args.«data».now c.adpcm_nibble_byte-base.result.0 c.args.coefficients.now (c.args.start.0 + c.loop-done.done) c.loop-done.x ≡ c.take_one.result
took c = sym (rw c.plus-m.ensures at c.take_one.ensures)

pub loop-done-init : goal.loop-done-init
loop-done-init c = begin _ _ _ _ _ _ _

pub index_from-at-requires : goal.index_from-at-requires
index_from-at-requires c = omega (arith, from_base (goal.at.index_from-at-requires c).After-plus-m, c.adpcm_nibble_byte.ensures)

pub overflow_add-at : goal.overflow_add-at
overflow_add-at c = omega (arith, framed c)

pub slice_bounds-decode_frame-end : goal.slice_bounds-decode_frame-end
slice_bounds-decode_frame-end c = omega (arith, framed c)

pub slice_bounds-decode_frame-end-then-begins_frame : goal.slice_bounds-decode_frame-end-then-begins_frame
slice_bounds-decode_frame-end-then-begins_frame c = omega (arith, framed (goal.at.slice_bounds-decode_frame-end-then-begins_frame c).Then-begins_frame, c.loop-done.invariant.size)

pub overflow_add-done-then-begins_frame : goal.overflow_add-done-then-begins_frame
overflow_add-done-then-begins_frame c = omega (arith, framed (goal.at.overflow_add-done-then-begins_frame c).Then-begins_frame, c.loop-done.invariant.size)

pub loop-done-preserved-then-begins_frame : goal.loop-done-preserved-then-begins_frame
loop-done-preserved-then-begins_frame c =
    let n = c.loop-done.done in
    let at : c.index_from-at.result ≡ nibble_of c.plus-m.result.0 / 2 - c.adpcm_nibble_byte-base.result.0 =
    c.index_from-at.ensures ∙ ap (λ (j : ℕ). j - c.adpcm_nibble_byte-base.result.0) c.adpcm_nibble_byte.ensures in
    let run = ap (λ (j : ℕ). run_from c.args.«data».now c.adpcm_nibble_byte-base.result.0 c.args.coefficients.now 14 j c.loop-done.x) (sym c.plus-m.ensures)
    ∙ run_frame c.args.«data».now _ c.args.coefficients.now c.plus-m.result.0 _ (framed (goal.at.loop-done-preserved-then-begins_frame c).Then-begins_frame).0 (from_base (goal.at.loop-done-preserved-then-begins_frame c).After-plus-m) at (framed (goal.at.loop-done-preserved-then-begins_frame c).Then-begins_frame).1 c.loop-done.x in
    ahead_by _ _ _ _ _ _ _ c.loop-done.out _ c.loop-done.x _ n 14 _ c.requires.1 (omega (arith, framed (goal.at.loop-done-preserved-then-begins_frame c).Then-begins_frame)) c.loop-done.invariant run c.decode_frame-x.ensures

pub take_one-requires : goal.take_one-requires
take_one-requires c =
    (omega (arith, c.plus-m.ensures, c.requires, c.well_formed, c.loop-done.invariant.size), from_base (goal.at.take_one-requires c).After-plus-m)

pub returns-in-Err : goal.returns-in-Err
returns-in-Err c =
    subst (λ (b : ℕ). Decodes (run_from c.args.«data».now b c.args.coefficients.now c.args.count c.args.start.0 c.args.ctx) c.args.out.now c.loop-done.out c.loop-done.done c.in-Err.y)
    c.adpcm_nibble_byte-base.ensures
    (cut _ _ _ _ _ _ _ _ c.loop-done.x _ _ (omega arith) (omega arith) c.loop-done.invariant (took (goal.at.returns-in-Err c).After-take_one ∙ c.in-Err.is))

pub offset_bounds-out-done-in-Ok : goal.offset_bounds-out-done-in-Ok
offset_bounds-out-done-in-Ok c =
    omega (arith, c.loop-done.invariant.size, c.requires, c.well_formed)

pub loop-done-preserved : goal.loop-done-preserved
loop-done-preserved c =
    let y = c.in-Ok.y in
    rw (c.from.ensures, back w16 y.history0 (omega arith))
    (more _ _ _ _ _ _ _ _ c.loop-done.x y _ c.requires.1 c.loop-done-test.true c.loop-done.invariant (took (goal.at.loop-done-preserved c).After-take_one ∙ c.in-Ok.is))

pub returns : goal.returns
returns c =
    subst (λ (b : ℕ). Decodes (run_from c.args.«data».now b c.args.coefficients.now c.args.count c.args.start.0 c.args.ctx) c.args.out.now c.loop-done.out c.loop-done.done c.loop-done.x)
    c.adpcm_nibble_byte-base.ensures
    (whole _ _ _ _ _ _ _ _ _ _ (omega arith) (omega arith) c.loop-done.invariant)
