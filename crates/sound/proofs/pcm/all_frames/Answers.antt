-- `sound::all_frames` meets its contract: after each turn the frames so far are made. Assumes nothing.
use Prim.Native.Nat.{◌*◌, ◌≤◌}
use native.Mathlib.Omega.{arith}
use Rattle.ranges.specs.Ranges.{ranges_of}
use Rattle.across.specs.Lengths.{frame_bytes}
use Rattle.sound.proofs.Stretches.{frame_le, FramesAsked}
use Rattle.sound.proofs.Stretches.{reached_none, reached_inside, reached_room, reached_near}
use Rattle.sound.proofs.Stretches.{reached_left, reached_more, reached_all}
use Rattle.sound.proofs.pcm.all_frames.Goals as goal
use Rattle.sound.proofs.pcm.all_frames.Goals.{Start}

-- a frame is short
small : (c : Start) → c.args.width * c.args.channels ≤ frame_bytes
small c = frame_le c.args.width c.args.channels c.requires.width_value c.requires.channels_bound.0

asked : (c : Start)
    → (FramesAsked c.args.width c.args.channels c.args.c c.args.n c.args.addr (ranges_of c.args.memory.now.ranges.now) c.args.memory.now.bytes.now c.args.out.now)
asked c = record {
  wide = c.requires.width_value;
  channel = c.requires.channels_bound.1;
  fits = c.requires.channels_bound.3;
  memory = c.args.memory.now.ascending;
  reads = c.requires.channels_value;
}

pub overflow_mul-frame : goal.overflow_mul-frame
overflow_mul-frame c = omega (arith, small (goal.at.overflow_mul-frame c).Start)

pub loop-done-init : goal.loop-done-init
loop-done-init c = reached_none (asked (goal.at.loop-done-init c).Start)

pub overflow_mul-at : goal.overflow_mul-at
overflow_mul-at c = omega (arith, reached_near c.loop-done.invariant c.loop-done-test.true)

pub overflow_add-at : goal.overflow_add-at
overflow_add-at c = omega (arith, reached_near c.loop-done.invariant c.loop-done-test.true)

pub slice_bounds-next_frames-count : goal.slice_bounds-next_frames-count
slice_bounds-next_frames-count c = reached_inside c.loop-done.invariant

pub slice_bounds-next_frames-start : goal.slice_bounds-next_frames-start
slice_bounds-next_frames-start c = reached_inside c.loop-done.invariant

pub next_frames-made-requires : goal.next_frames-made-requires
next_frames-made-requires c =
    let l = c.loop-done.invariant in record { width_value = c.requires.width_value; channels_bound = (c.requires.channels_bound.0, c.requires.channels_bound.1, omega arith, omega (arith, c.requires.channels_bound.2), reached_room l); channels_value = reached_left l }

pub loop-done-preserved : goal.loop-done-preserved
loop-done-preserved c =
    reached_more c.loop-done.invariant c.next_frames-made.ensures.result_nonzero.1 c.next_frames-made.ensures.out_after

pub returns : goal.returns
returns c = reached_all c.loop-done.invariant (omega arith)
