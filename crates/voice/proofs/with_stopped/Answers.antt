-- `voice::with_stopped` meets its contract: the play mark and the fraction are new, the rest is that of `with_queue`. Assumes nothing.
use Rattle.std.proofs.Common.{pos, false, ap}
use Rattle.std.specs.Float.{fin}
use lib.Ieee.{of_bits}
use Rattle.voice.specs.declared.play.Play.TheVariants.{Stopped}
use Rattle.voice.specs.declared.Voice.{Voice}
use Rattle.voice.specs.Voice.{queue_of, with}
use Rattle.voice.proofs.with_stopped.Goals as goal

pub returns : goal.returns
unfolding of_bits
returns c = ap (λ (w : Voice). with Stopped w.flush (queue_of w) (fin false 0 (pos 0)) w) c.with_queue.ensures
