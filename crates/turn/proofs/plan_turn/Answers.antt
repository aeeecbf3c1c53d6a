-- `turn::plan_turn` meets its contract: what the calls give, put together, is the turn. Assumes nothing.
use Rattle.std.proofs.Common.{◌<◌, ◌≤◌, sym, subst, arith}
use Rattle.voice.specs.declared.queue.Queue.{Queue}
use Rattle.plan.specs.Source.{Source}
use Rattle.turn.specs.Render.{render_over}
use Rattle.turn.specs.Made.{needed_upto, turn_made}
use Rattle.turn.proofs.plan_turn.Goals as goal

pub overflow_cast-needed : goal.overflow_cast-needed
overflow_cast-needed c =
    let r = render_over c.args.r c.args.ranges.now in
    omega (arith, needed_upto c.args.v r c.ratio-ratio.ensures c.needed-needed.ensures c.requires.t c.requires.sample_count_bound)

pub plan_fetch-plan-requires : goal.plan_fetch-plan-requires
plan_fetch-plan-requires c =
    let r = render_over c.args.r c.args.ranges.now in
    let n = needed_upto c.args.v r c.ratio-ratio.ensures c.needed-needed.ensures c.requires.t
    c.requires.sample_count_bound in record { index_bound = subst (λ (q : Queue). q.index < 4) (sym c.queue_of.ensures) c.requires.index_bound; channels_nonzero = subst (λ (t : Source). (0 < t.channels) × (t.channels ≤ 6)) (sym (c.source_of.ensures c.args.ranges.now)) c.requires.le_channels; count_bound = omega arith }

pub returns : goal.returns
returns c =
    let r = render_over c.args.r c.args.ranges.now in
    turn_made c.args.v r c.ratio-ratio.ensures c.needed-needed.ensures c.queue_of.ensures
    (c.source_of.ensures c.args.ranges.now) c.plan_fetch-plan.ensures c.next_fraction-fraction.ensures
    c.previous_of.ensures c.finish.ensures
