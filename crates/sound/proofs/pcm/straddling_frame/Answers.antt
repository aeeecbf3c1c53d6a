-- `sound::straddling_frame` meets its contract: one frame of what was gathered. Assumes nothing.
use Prim.Native.Nat.{◌*◌, ◌≤◌}
use mathlib.Core.List.{◌++◌}
use mathlib.Core.Path.{sym, ◌∙◌}
use native.Mathlib.Omega.{arith}
use lib.ListN.{drop}
use lib.Seq.{length-take-le}
use Rattle.across.specs.Lengths.{frame_bytes}
use Rattle.sound.specs.Sound.{pcm_of}
use Rattle.sound.proofs.Stretches.{frame_le}
use Rattle.sound.proofs.pcm.straddling_frame.Goals as goal
use Rattle.sound.proofs.pcm.straddling_frame.Goals.{Start}

-- a frame is short
small : (c : Start) → c.args.width * c.args.channels ≤ frame_bytes
small c = frame_le c.args.width c.args.channels c.requires.width_value c.requires.channels_bound.0

pub overflow_mul-frame : goal.overflow_mul-frame
overflow_mul-frame c = omega (arith, small (goal.at.overflow_mul-frame c).Start)

pub frame-block-requires : goal.frame-block-requires
frame-block-requires c = record { size_value = (c.requires.channels_value, small (goal.at.frame-block-requires c).Start) }

pub slice_bounds-block-end : goal.slice_bounds-block-end
slice_bounds-block-end c = omega (arith, small (goal.at.slice_bounds-block-end c).Start)

pub slice_bounds-frames-end : goal.slice_bounds-frames-end
slice_bounds-frames-end c =
    sym (length-take-le (c.args.width * c.args.channels) c.frame-block.result (omega (arith, small (goal.at.slice_bounds-frames-end c).Start)))

pub returns : goal.returns
returns c =
    c.frames.ensures ∙ (λ i. pcm_of c.args.width c.args.channels c.args.c (c.frame-block.ensures i) 1 ++ drop 1 c.args.out.now)
