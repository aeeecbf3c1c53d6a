-- `voice_probes::plan_voice` meets what a plan requires by its own tests. Assumes nothing.
use mathlib.Core.Path.{◌≡◌, ap}
use native.Mathlib.Omega.{arith}
use Rattle.voice.specs.declared.queue.Queue.{Queue}
use Rattle.voice_probes.proofs.fetches.plan_voice.Goals as goal

pub plan_fetch-p-requires : goal.plan_fetch-p-requires
plan_fetch-p-requires c =
    let e : c.queue_of.result.index ≡ c.args.v.index = ap (λ (q : Queue). q.index) c.queue_of.ensures in record { index_bound = omega arith; channels_nonzero = (omega arith, omega arith); count_bound = omega arith }
