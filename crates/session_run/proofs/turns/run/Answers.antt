-- `session_run::turns::run`: before each turn, the lines that are still to be printed are those of the calls that are left. Assumes nothing.
use Rattle.std.proofs.Common.{◌<◌, ◌∙◌, arith, rules, length}
use Rattle.session_run.specs.Lines.{lines_of}
use Rattle.session_run.proofs.Running.{found, run_end, turn_line, turn_near, turn_last, turn_next}
use Rattle.session_run.proofs.turns.run.Goals as goal

pub turn-requires-clause-line_at : goal.turn-requires-clause-line_at
turn-requires-clause-line_at g c = turn_line c.loop.invariant.0 (omega arith)

pub returns-in_err-next-clause-err : goal.returns-in_err-next-clause-err
returns-in_err-next-clause-err g c =
    let near = turn_line c.loop.invariant.0 (omega arith) in
    let short : c.turn.new.printed < length (lines_of c.args.input.now) = omega (arith, near.there, c.in_err-next.ensures.err) in
    search rules

pub returns-in-None-clause-ok : goal.returns-in-None-clause-ok
returns-in-None-clause-ok g c =
    turn_last c.loop.invariant.0 (omega arith) c.in_ok-next.ensures.printed_after (found c.in-None.is c.in_ok-next.ensures.reply_after)

pub overflow_add-at : goal.overflow_add-at
overflow_add-at g c =
    omega (
      arith,
      turn_near c.loop.invariant.0 (omega arith) c.in_ok-next.ensures.printed_after (found c.in-Some.is c.in_ok-next.ensures.reply_after),
    )

pub loop-preserved : goal.loop-preserved
loop-preserved g c =
    let kept = c.turn.auto in
    let lens = c.loop.invariant in (
      turn_next lens.0 (omega arith) c.in_ok-next.ensures.printed_after (found c.in-Some.is c.in_ok-next.ensures.reply_after)
          (omega arith),
      kept.words ∙ lens.1,
      kept.longs ∙ lens.2,
      kept.floats ∙ lens.3,
      kept.contexts ∙ lens.4,
      kept.history ∙ lens.5,
      kept.frames ∙ lens.6,
      kept.reply ∙ lens.7,
      kept.out ∙ lens.8,
    )

pub returns-clause-ok : goal.returns-clause-ok
returns-clause-ok g c = run_end c.loop.invariant.0 (omega (arith, c.loop-test.false))
