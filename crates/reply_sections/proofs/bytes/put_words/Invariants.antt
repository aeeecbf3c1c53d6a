use Prim.Native.Nat.{ℕ}
use lib.ListN.{length, get_or}
use Rattle.rows.specs.Tables.{Joining}
use Rattle.fields.specs.Fields.{bytes_of}
use Rattle.reply_sections.proofs.bytes.put_words.Given as goal

abbrev pub invariant-loop-k : goal.invariant-loop-k
invariant-loop-k l = Joining l.initial.out l.at (length l.words) 4 (λ (i : ℕ). bytes_of 4 (get_or l.words i 0)) l.out l.k
