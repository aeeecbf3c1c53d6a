-- `session::frames_line` meets its contract: the head, the floats, and the line's end. Assumes nothing.
use Prim.Native.Nat.{◌+◌, ◌*◌, ◌/◌, ◌≤◌}
use native.Mathlib.Omega.{arith}
use lib.ListN.{length}
use Rattle.session.specs.Lines.{frames_word, floats_text, frames_line}
use Rattle.session.specs.Line.{head_near, rest_near, line_written, line_inside}
use Rattle.session.specs.Words.{length_floats}
use Rattle.session.proofs.lines.frames_line.Goals as goal

pub put_floats-end-requires : goal.put_floats-end-requires
put_floats-end-requires c =
    let s = c.args.frames.now in
    let near = head_near c.args.out.now frames_word (length s / 2) (floats_text s) (length s * 9) (length_floats s) (omega arith) c.put_head-head.ensures in
    omega (arith, c.put_head-head.auto.out)

pub put_byte-requires : goal.put_byte-requires
put_byte-requires c =
    let s = c.args.frames.now in
    let near = rest_near c.args.out.now frames_word (length s / 2) (floats_text s) (length s * 9) (length_floats s) (omega arith) c.put_head-head.ensures c.put_floats-end.ensures in
    omega (arith, c.put_head-head.auto.out, c.put_floats-end.auto.out)

pub returns : goal.returns
unfolding frames_line
returns c =
    let s = c.args.frames.now in
    let room : length frames_word + length s * 9 + 6 ≤ length c.args.out.now = omega arith in record { result_after = line_written c.args.out.now frames_word (length s / 2) (floats_text s) (length s * 9) (length_floats s) room c.put_head-head.ensures c.put_floats-end.ensures c.put_byte.ensures; upper_bound = line_inside c.args.out.now frames_word (length s / 2) (floats_text s) (length s * 9) (length_floats s) room c.put_head-head.ensures c.put_floats-end.ensures c.put_byte.ensures }
