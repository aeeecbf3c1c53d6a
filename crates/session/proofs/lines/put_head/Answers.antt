-- `session::put_head` meets its contract: a word, and a number behind it. Assumes nothing.
use native.Mathlib.Omega.{arith}
use Rattle.session.specs.Digits.{length_decimal}
use Rattle.session.specs.Written.{end_is, append_two}
use Rattle.session.proofs.lines.put_head.Goals as goal

pub put_decimal-requires : goal.put_decimal-requires
put_decimal-requires c =
    omega (arith, end_is _ _ c.put_bytes-at.ensures, c.put_bytes-at.auto.out)

pub returns : goal.returns
returns c =
    append_two _ _ _ (omega (arith, length_decimal c.args.n)) c.put_bytes-at.ensures c.put_decimal.ensures
