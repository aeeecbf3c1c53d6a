use Rattle.rows.specs.Loops.{Turning}
use Rattle.desk.specs.Sinks.{sink_rows, sink_step}
use Rattle.desk.specs.SinkLaws.{Sized}
use Rattle.desk.proofs.sinks.update_sinks.Given as goal

abbrev pub invariant-loop-k : goal.invariant-loop-k
invariant-loop-k l =
    Turning (Sized l.n) (sink_step l.d) l.k-end (sink_rows l.initial.words l.initial.floats) (sink_rows l.words l.floats) l.k
