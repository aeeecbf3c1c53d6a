-- `session_run::print_run` prints the lines of the definition, by what question 10 and the length call answered. Assumes nothing.
use Rattle.std.proofs.Common.{ap, not}
use Rattle.session_run.proofs.Fitting.{fits, accepted_parameters}
use Rattle.session_run.proofs.Opening.{not_accepted, lengths_given_lem, lengths_refused_lem}
use Rattle.session_run.proofs.print_run.Goals as goal

pub refuse-requires-clause-input_value : goal.refuse-requires-clause-input_value
refuse-requires-clause-input_value g c = not_accepted _ c.accepted.ensures (ap not c.if-not-accepted.true)

pub make-requires-clause-p_value : goal.make-requires-clause-p_value
make-requires-clause-p_value g c =
    let small = accepted_parameters _ c.accepted.ensures (ap not c.if-not-accepted.false) c.parameters-p.ensures in
    (c.parameters-p.ensures, small, fits _ small _ c.in-Ok.is c.lengths.ensures)

pub make-requires-clause-input_value : goal.make-requires-clause-input_value
make-requires-clause-input_value g c =
    lengths_given_lem _ c.accepted.ensures (ap not c.if-not-accepted.false) c.parameters-p.ensures _ c.lengths.ensures c.in-Ok.is

pub refuse-requires-in-Err-clause-input_value : goal.refuse-requires-in-Err-clause-input_value
refuse-requires-in-Err-clause-input_value g c =
    lengths_refused_lem _ c.accepted.ensures (ap not c.if-not-accepted.false) c.parameters-p.ensures _ c.lengths.ensures
    c.in-Err.is c.number.ensures
