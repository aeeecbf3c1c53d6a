-- `plan::plan_fetch` meets its contract. The loop's invariant: the rounds that are left, done, give the whole plan. Assumes nothing.
use Rattle.std.proofs.Common.{[], refl, ap, ◌∙◌, arith}
use Rattle.voice.specs.Queue.{queue_at}
use Rattle.plan.specs.Source.{over}
use Rattle.plan.specs.Rounds.{plan_of, without_acts}
use Rattle.plan.specs.Fetch.{plan_begin, round_upto, round_index, plan_more, plan_full, plan_stop}
use Rattle.plan.proofs.rounds.plan_fetch.Goals as goal
use Rattle.plan.proofs.rounds.plan_fetch.Goals.{then-loop-rounds-test+else-going, else-loop-rounds-test}

pub begins-going-requires : goal.begins-going-requires
begins-going-requires c = rw c.spot_of-spot.ensures c.requires.index_bound

pub loop-rounds-init : goal.loop-rounds-init
loop-rounds-init c =
    record { acts = []; planning = plan_begin _ _ _ (rw c.spot_of-spot.ensures c.requires.index_bound) (c.begins-going.ensures _) }

pub overflow_add-done : goal.overflow_add-done
overflow_add-done c =
    omega (arith, round_upto c.loop-rounds.invariant.planning (c.plan_round-r.ensures _ refl), c.requires.count_bound)

pub begins-going-requires-in-loop-rounds : goal.begins-going-requires-in-loop-rounds
begins-going-requires-in-loop-rounds c =
    round_index c.loop-rounds.invariant.planning (c.plan_round-r.ensures _ refl)

pub loop-rounds-preserved : goal.loop-rounds-preserved
loop-rounds-preserved c =
    let p = c.loop-rounds.invariant.planning in
    let h = c.if-going.true in
    record { acts = _; planning = plan_more p (c.plan_round-r.ensures _ refl) c.loop-rounds-test.true h (c.begins-going-in-loop-rounds.ensures _) }

pub returns : goal.returns
returns c =
    let p = c.loop-rounds.invariant.planning in
    (λ i. record { queue = c.queue_at.ensures i; rounds = c.loop-rounds.rounds; done = c.loop-rounds.done; table = c.table_read.ensures i })
    ∙ ap without_acts
    (elim c.loop-rounds-test.branch [
      | then-loop-rounds-test+else-going w ↦ plan_stop p w.if-going.false
      | else-loop-rounds-test w ↦ plan_full p w.loop-rounds-test.false
    ])
    ∙ (λ i. without_acts (plan_of (queue_at c.args.q.buffers (c.spot_of-spot.ensures i)) (over c.args.s c.args.ranges.now) c.args.count))
