-- `encoder::encode::encode_frames` meets its contract: what is written and what is left are the whole. Assumes nothing.
use mathlib.Core.Path.{◌≡◌, ◌∙◌}
use Prim.Native.Nat.{◌+◌, ◌-◌, ◌≤◌, min}
use native.Mathlib.Omega.{arith}
use lib.ListN.{length}
use Rattle.trial.specs.Trial.{frame_samples}
use Rattle.encoder.specs.Frame.{frame_size}
use Rattle.encoder.proofs.Going.{go_begin, go_room, go_more, go_end}
use Rattle.encoder.proofs.encode.encode_frames.Goals as goal
use Rattle.encoder.proofs.encode.encode_frames.Goals.{After-min-n}

-- how many samples the frame has, and that its bytes have room
module _ (c : After-min-n) where
  few : c.min-n.result ≡ min frame_samples (length c.args.samples.now - c.loop-at.at)
  few = c.min-n.ensures ∙ omega arith

  room : c.loop-at.put + frame_size c.min-n.result ≤ length c.loop-at.out
  room = go_room _ _ _ _ _ _ _ _ _ c.loop-at.invariant c.loop-at-test.true _ few

pub loop-at-init : goal.loop-at-init
loop-at-init c = go_begin _ _ _ _ c.requires

pub overflow_add-next : goal.overflow_add-next
overflow_add-next c = record { fits = omega (arith, room c, c.loop-at.invariant.size) }

pub slice_bounds-encode_frame-end-in-loop-at : goal.slice_bounds-encode_frame-end-in-loop-at
slice_bounds-encode_frame-end-in-loop-at c = room (goal.at.slice_bounds-encode_frame-end-in-loop-at c).After-min-n

pub loop-at-preserved : goal.loop-at-preserved
loop-at-preserved c =
    go_more _ _ _ _ _ _ _ _ _ c.loop-at.invariant c.loop-at-test.true _ (few (goal.at.loop-at-preserved c).After-min-n)
    _ _ _ c.encode_frame-f.ensures _ (c.saturating_add-error.ensures ∙ omega arith)

pub returns : goal.returns
returns c = go_end _ _ _ _ _ _ _ _ _ c.loop-at.invariant c.loop-at-test.false
