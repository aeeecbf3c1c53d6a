-- `session_run::turns::refuse`: the refusal's line is the run's first, and its last. Assumes nothing.
use Rattle.std.proofs.Common.{ap, ◌∙◌, drop}
use Rattle.session_run.specs.Lines.{lines_of}
use Rattle.session_run.proofs.Printed.{at_front, due}
use Rattle.session_run.proofs.turns.refuse.Goals as goal

pub print_line-requires-clause-line_at : goal.print_line-requires-clause-line_at
print_line-requires-clause-line_at g c =
    let lines = lines_of c.args.input.now in
    let first = ap (λ k. drop k lines) c.requires.printed_value ∙ c.requires.input_value in
    due _ (at_front lines _ first) c.refused_line-n.ensures.result_after
