-- `sinks::sink_record` meets its contract. Assumes nothing.
use Rattle.desk.specs.Sinks.{sink_record, sink_step}
use Rattle.desk.proofs.sinks.sink_record.Goals as goal

pub returns : goal.returns
unfolding sink_step sink_record
returns c = cc
