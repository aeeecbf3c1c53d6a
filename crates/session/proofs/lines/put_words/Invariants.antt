use Prim.Native.Nat.{◌+◌, ◌*◌, ◌/◌}
use lib.ListN.{length}
use Rattle.fields.specs.Fields.{le}
use Rattle.session.specs.Text.{text}
use Rattle.session.specs.Lines.{word_text}
use Rattle.session.specs.Written.{Writing}
use Rattle.session.proofs.lines.put_words.Given as goal

abbrev pub invariant-loop-k : goal.invariant-loop-k
invariant-loop-k l = Writing (text l.initial.out l.at) ((length l.d + 3) / 4) 14 (λ i. word_text (4 * i) (le 4 l.d (4 * i))) l.out l.end l.k
