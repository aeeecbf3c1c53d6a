-- What a turn needs is little enough for the test of its room.
use Rattle.voice_turn.specs.Asks.{needed_upto}
use Rattle.voice_turn.proofs.+render_ready.Goals as goal

pub enough-requires : goal.enough-requires
enough-requires t c = rw (c.samples_needed.ensures c.args.ranges.now) (needed_upto c.requires)
