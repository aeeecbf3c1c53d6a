-- `session::refused_line` meets its contract: the head, and the line's end. Assumes nothing.
use native.Mathlib.Omega.{arith}
use lib.ListN.{length-append}
use Rattle.session.specs.Text.{decimal_of}
use Rattle.session.specs.Lines.{refused_word, refused_line}
use Rattle.session.specs.Digits.{length_decimal}
use Rattle.session.specs.Written.{end_is, append_two}
use Rattle.session.proofs.lines.refused_line.Goals as goal

pub put_byte-requires : goal.put_byte-requires
put_byte-requires c =
    let n = c.args.number in
    omega (arith, end_is _ _ c.put_head-end.ensures, c.put_head-end.auto.out, length-append refused_word (decimal_of n), length_decimal n)

pub returns : goal.returns
unfolding refused_line
returns c =
    let n = c.args.number in record { result_after = append_two _ _ _ (omega (arith, length-append refused_word (decimal_of n), length_decimal n)) c.put_head-end.ensures c.put_byte.ensures; upper_bound = omega (arith, end_is _ _ c.put_byte.ensures, end_is _ _ c.put_head-end.ensures, c.put_byte.auto.out, c.put_head-end.auto.out, length-append refused_word (decimal_of n), length_decimal n) }
