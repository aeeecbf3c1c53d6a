-- `session_run::room::open` runs the calls, or refuses, by what the open answered. Assumes nothing.
use Rattle.session_run.proofs.Opening.{open_ran, open_refused}
use Rattle.session_run.proofs.room.open.Goals as goal

pub run-requires-clause-input_value : goal.run-requires-clause-input_value
run-requires-clause-input_value g c =
    open_ran _ _ _ _ c.requires.p_value c.requires.input_value c.«open».result c.«open».ensures c.in-Ok.is

pub refuse-requires-clause-input_value : goal.refuse-requires-clause-input_value
refuse-requires-clause-input_value g c =
    open_refused _ _ _ _ c.requires.p_value c.requires.input_value c.«open».result c.«open».ensures c.in-Err.is c.number.ensures
