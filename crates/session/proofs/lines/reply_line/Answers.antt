-- `session::reply_line` meets its contract: the head, the words, and the line's end. Assumes nothing.
use Prim.Native.Nat.{◌+◌, ◌*◌, ◌/◌, ◌≤◌}
use native.Mathlib.Omega.{arith}
use lib.ListN.{length}
use Rattle.session.specs.Lines.{reply_word, words_text, reply_line}
use Rattle.session.specs.Line.{head_near, rest_near, line_written, line_inside}
use Rattle.session.specs.Words.{length_words}
use Rattle.session.proofs.lines.reply_line.Goals as goal

pub put_words-end-requires : goal.put_words-end-requires
put_words-end-requires c =
    let s = c.args.reply.now in
    let near = head_near c.args.out.now reply_word (length s) (words_text s) ((length s + 3) / 4 * 14) (length_words s) (omega arith) c.put_head-head.ensures in record { d_len_bound = omega arith; d_in_bounds = omega (arith, c.put_head-head.auto.out) }

pub put_byte-requires : goal.put_byte-requires
put_byte-requires c =
    let s = c.args.reply.now in
    let near = rest_near c.args.out.now reply_word (length s) (words_text s) ((length s + 3) / 4 * 14) (length_words s) (omega arith) c.put_head-head.ensures c.put_words-end.ensures in
    omega (arith, c.put_head-head.auto.out, c.put_words-end.auto.out)

pub returns : goal.returns
unfolding reply_line
returns c =
    let s = c.args.reply.now in
    let room : length reply_word + (length s + 3) / 4 * 14 + 6 ≤ length c.args.out.now = omega arith in record { result_after = line_written c.args.out.now reply_word (length s) (words_text s) ((length s + 3) / 4 * 14) (length_words s) room c.put_head-head.ensures c.put_words-end.ensures c.put_byte.ensures; upper_bound = line_inside c.args.out.now reply_word (length s) (words_text s) ((length s + 3) / 4 * 14) (length_words s) room c.put_head-head.ensures c.put_words-end.ensures c.put_byte.ensures }
