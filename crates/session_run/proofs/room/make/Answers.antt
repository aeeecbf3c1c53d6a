-- `session_run::room::make` lends parts that are inside its arrays, as the definition has them. Assumes nothing.
use Rattle.std.proofs.Common.{ap, sym, ◌∙◌}
use Rattle.session_run.specs.Lines.{open_lines}
use Rattle.session_run.proofs.Fitting.{room_lent}
use Rattle.session_run.proofs.room.make.Goals as goal

pub open-requires-clause-input_value : goal.open-requires-clause-input_value
open-requires-clause-input_value g c =
    let state = room_lent _ _ c.requires.p_value.1 c.requires.p_value.2 c.zeroed-words.ensures.1 c.zeroed-longs.ensures.1 in
    let lent = state c.zeroed-floats.ensures.1 c.zeroed-contexts.ensures.1 c.zeroed-history.ensures.1
    c.zeroed-frames.ensures.1 c.zeroed-reply.ensures.1
    in c.requires.input_value ∙ ap (open_lines c.args.input.now) (sym lent)
