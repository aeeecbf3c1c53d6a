-- `plan::plan_pcm` meets its contract: the calls give the parts of `pcmPlan`, by whether there are frames and whether they can be read. Assumes nothing.
use Rattle.std.proofs.Common.{◌*◌, ◌^◌, ◌<◌, ◌≤◌, sym, refl, ◌∙◌, mul-le-mul, mul-pos, arith, eq-eqb, ne_eqb}
use Rattle.plan.specs.Laws.{pcm_made}
use Rattle.plan.specs.Source.{over}
use Rattle.plan.proofs.attempt.plan_pcm.Goals as goal
use Rattle.plan.proofs.attempt.plan_pcm.Goals.{After-frames_left-n, Start}

-- a frame takes from 1 to 24 bytes
module _ (c : Start) where
  frame_le : c.args.width * c.args.s.channels ≤ 24
  frame_le = mul-le-mul c.requires.width_nonzero.1 c.requires.channels_nonzero.1

  frame_some : 0 < c.args.width * c.args.s.channels
  frame_some = mul-pos c.requires.width_nonzero.0 c.requires.channels_nonzero.0

pub overflow_mul-frame : goal.overflow_mul-frame
overflow_mul-frame c = omega (arith, frame_le (goal.at.overflow_mul-frame c).Start)

pub overflow_cast-frame : goal.overflow_cast-frame
overflow_cast-frame c = omega (arith, frame_le (goal.at.overflow_cast-frame c).Start)

pub nonzero_div-frames : goal.nonzero_div-frames
nonzero_div-frames c = frame_some (goal.at.nonzero_div-frames c).Start

pub returns-then-n-eq0 : goal.returns-then-n-eq0
returns-then-n-eq0 c =
    c.missing.ensures ∙ pcm_made c.args.width (over c.args.s c.args.ranges.now) c.args.wb c.args.start c.args.want c.frames_left-n.ensures (eq-eqb _ 0 c.if-n-eq0.true) refl refl

pub overflow_mul-addr : goal.overflow_mul-addr
overflow_mul-addr c =
    let h : c.args.start.0 ≤ 2 ^ 32 = omega (arith, c.requires.start_bound.0) in
    omega (arith, mul-le-mul h (frame_le (goal.at.overflow_mul-addr c).Start))

pub overflow_mul-n : goal.overflow_mul-n
overflow_mul-n c =
    let h : c.frames_left-n.result ≤ 2 ^ 16 = omega (arith, c.frames_left-n.ensures, c.requires.start_bound.1) in
    omega (arith, mul-le-mul h (frame_le (goal.at.overflow_mul-n c).Start))

pub returns-then-readable : goal.returns-then-readable
returns-then-readable c =
    pcm_made c.args.width (over c.args.s c.args.ranges.now) c.args.wb c.args.start c.args.want c.frames_left-n.ensures (ne_eqb _ 0 c.if-n-eq0.false) refl
    (sym c.readable.ensures ∙ c.if-readable.true)

pub returns : goal.returns
returns c =
    c.missing-2.ensures
    ∙ pcm_made c.args.width (over c.args.s c.args.ranges.now) c.args.wb c.args.start c.args.want c.frames_left-n.ensures (ne_eqb _ 0 c.if-n-eq0.false) refl
    (sym c.readable.ensures ∙ c.if-readable.false)
