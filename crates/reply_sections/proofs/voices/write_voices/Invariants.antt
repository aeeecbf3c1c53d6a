use Rattle.rows.specs.Tables.{Joining}
use Rattle.reply_sections.specs.Voices.{status_at}
use Rattle.reply_sections.proofs.voices.write_voices.Given as goal

abbrev pub invariant-loop-i : goal.invariant-loop-i
invariant-loop-i l = Joining l.initial.out l.at l.n 0x10 (status_at l.words l.longs) l.out l.i
