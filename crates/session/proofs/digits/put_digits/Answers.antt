-- `session::put_digits` meets its contract: `Spelling` holds at each turn. Assumes nothing.
use native.Mathlib.Omega.{arith}
use native.Mathlib.Nat.{mod-lt}
use Rattle.session.specs.Digits.{spell_begin, spell_more, spell_end}
use Rattle.session.proofs.digits.put_digits.Goals as goal

pub loop-i-init : goal.loop-i-init
loop-i-init c = spell_begin _ _ _ _ _

pub digit-requires : goal.digit-requires
digit-requires c =
    omega (arith, mod-lt c.loop-i.rest c.requires.base_nonzero.0)

pub loop-i-preserved : goal.loop-i-preserved
loop-i-preserved c = spell_more c.loop-i.invariant (omega arith) (omega arith) c.digit.ensures

pub returns : goal.returns
returns c = spell_end c.loop-i.invariant (omega arith) (omega arith)
