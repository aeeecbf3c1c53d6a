use lib.Ieee.{nan}
use lib.ListN.{length, get_or}
use Rattle.session.specs.Text.{text}
use Rattle.session.specs.Lines.{float_text}
use Rattle.session.specs.Written.{Writing}
use Rattle.session.proofs.lines.put_floats.Given as goal

abbrev pub invariant-loop-x : goal.invariant-loop-x
invariant-loop-x l = Writing (text l.initial.out l.at) (length l.s) 9 (λ i. float_text (get_or l.s i nan)) l.out l.end l.x-index
