-- `session_run::turns::turn` prints the line that is due, and gives what the call leaves to the run. Assumes nothing.
use Rattle.std.proofs.Common.{true, false, refl, eq-eqb}
use Rattle.std.proofs.lemmas.Bool.{ne_eqb}
use Rattle.session_run.proofs.Turning.{turn_due, turn_told, size_known}
use Rattle.session_run.proofs.turns.turn.Goals as goal

pub print_line-requires-clause-line_at : goal.print_line-requires-clause-line_at
print_line-requires-clause-line_at g c =
    turn_due _ _ c.calls.ensures c.rest-d.ensures c.memory.ensures c.first_call-call.ensures _ _
    c.run_call-line.ensures.size_after c.requires.line_at

pub returns-then-line-ne0-clause-reply_after : goal.returns-then-line-ne0-clause-reply_after
returns-then-line-ne0-clause-reply_after g c =
    turn_told _ _ c.calls.ensures c.rest-d.ensures c.memory.ensures c.first_call-call.ensures _ _
    c.run_call-line.ensures.size_after false refl (ne_eqb _ 0 c.if-line-ne0.true)

pub returns-clause-reply_after : goal.returns-clause-reply_after
returns-clause-reply_after g c =
    turn_told _ _ c.calls.ensures c.rest-d.ensures c.memory.ensures c.first_call-call.ensures _ _
    c.run_call-line.ensures.size_after true (size_known _ c.map_or.ensures) (eq-eqb _ 0 c.if-line-ne0.false)
