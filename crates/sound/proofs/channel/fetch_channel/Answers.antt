-- `sound::fetch_channel` meets its contract: after each round, the samples so far are what the acts so far make. Assumes nothing.
use Prim.Native.Nat.{ℕ, ◌-◌, ◌≤◌}
use mathlib.Core.Path.{◌≡◌, refl, ap, sym, subst}
use native.Mathlib.Omega.{arith}
use lib.ListN.{length, length-set}
use Rattle.voice.specs.declared.queue.Spot.{Spot}
use Rattle.voice.specs.Queue.{queue_at}
use Rattle.plan.specs.Source.{over}
use Rattle.plan.specs.Fetch.{round_upto, round_index, plan_full, plan_stop}
use Rattle.sound.specs.Channel.{Ready, FetchedBy, headed, length_headed}
use Rattle.sound.specs.Channel.{going_none, going_place, going_room, going_more, going_end}
use Rattle.sound.proofs.channel.fetch_channel.Goals as goal
use Rattle.sound.proofs.channel.fetch_channel.Goals.{then-loop-rounds-test+else-going, else-loop-rounds-test}
use Rattle.sound.proofs.channel.fetch_channel.Goals.{After-spot_of-spot, Start}

-- the history has three
three : (c : Start) → length c.args.history ≡ 3
three c = c.well_formed.1.1.1.1.1.0.1.0.1

-- what is asked of q is asked of its buffers at its spot
ready : (c : After-spot_of-spot)
    → (Ready (queue_at c.args.q.buffers c.spot_of-spot.result) (over c.args.s c.args.memory.now.ranges.now) c.args.memory.now.bytes.now c.args.out.now)
ready c =
    let a = c.args in
    subst (λ (p : Spot). Ready (queue_at c.args.q.buffers p) (over c.args.s c.args.memory.now.ranges.now) c.args.memory.now.bytes.now c.args.out.now)
    (sym c.spot_of-spot.ensures) c.requires.ready

-- the samples of the row are few
few : (c : Start) → length (headed c.args.history c.args.out.now) ≤ 4100
few c = omega (arith, length_headed c.args.history c.args.out.now, c.requires.ready.long)

pub bounds-out-1 : goal.bounds-out-1
bounds-out-1 c = rw length-set (omega (arith, c.requires.ready.history))

pub overflow_sub-count : goal.overflow_sub-count
overflow_sub-count c = simp length-set (omega (arith, c.requires.ready.history))

pub overflow_cast-count : goal.overflow_cast-count
overflow_cast-count c = simp length-set (omega (arith, c.requires.ready.long))

pub begins-going-requires : goal.begins-going-requires
begins-going-requires c = (ready c).index

pub loop-rounds-init : goal.loop-rounds-init
loop-rounds-init c =
    going_none c.args.history (ready (goal.at.loop-rounds-init c).After-spot_of-spot) (ap (λ (n : ℕ). n - 3) (length_headed c.args.history c.args.out.now)) (c.begins-going.ensures _)

pub offset_bounds-buffers-spot : goal.offset_bounds-buffers-spot
offset_bounds-buffers-spot c = omega (arith, c.loop-rounds.invariant.planning.index)

pub bounds-buffers-spot : goal.bounds-buffers-spot
bounds-buffers-spot c = c.loop-rounds.invariant.planning.index

pub overflow_sub-count-in-loop-rounds : goal.overflow_sub-count-in-loop-rounds
overflow_sub-count-in-loop-rounds c = omega (arith, c.loop-rounds.invariant.planning.upto)

pub plan_round-r-requires : goal.plan_round-r-requires
plan_round-r-requires c = record { index_bound = c.loop-rounds.invariant.planning.index; channels_nonzero = (c.requires.ready.some, c.requires.ready.channels); left_bound = omega (arith, few (goal.at.plan_round-r-requires c).Start) }

pub overflow_cast-done : goal.overflow_cast-done
overflow_cast-done c =
    omega (arith, c.loop-rounds.invariant.planning.upto, few (goal.at.overflow_cast-done c).Start)

pub overflow_add-done : goal.overflow_add-done
overflow_add-done c =
    omega (arith, c.loop-rounds.invariant.planning.upto, few (goal.at.overflow_add-done c).Start)

pub play-p-requires : goal.play-p-requires
play-p-requires c = record { room_at = going_room c.args.history (ready (goal.at.play-p-requires c).After-spot_of-spot) c.loop-rounds.invariant (c.plan_round-r.ensures _ refl); c_lt_channels = c.requires.c_lt_channels }

pub overflow_add-done-in-loop-rounds : goal.overflow_add-done-in-loop-rounds
overflow_add-done-in-loop-rounds c =
    omega (arith, round_upto c.loop-rounds.invariant.planning (c.plan_round-r.ensures _ refl), few (goal.at.overflow_add-done-in-loop-rounds c).Start)

pub begins-going-requires-in-loop-rounds : goal.begins-going-requires-in-loop-rounds
begins-going-requires-in-loop-rounds c =
    round_index c.loop-rounds.invariant.planning (c.plan_round-r.ensures _ refl)

pub loop-rounds-preserved : goal.loop-rounds-preserved
loop-rounds-preserved c =
    going_more c.args.history (ready (goal.at.loop-rounds-preserved c).After-spot_of-spot) c.loop-rounds.invariant (c.plan_round-r.ensures _ refl) c.play-p.ensures c.loop-rounds-test.true
    c.if-going.true (c.begins-going-in-loop-rounds.ensures _)

pub overflow_cast-done-2 : goal.overflow_cast-done-2
overflow_cast-done-2 c = omega (arith, c.loop-rounds.invariant.planning.upto, few (goal.at.overflow_cast-done-2 c).Start)

pub overflow_add-done-2 : goal.overflow_add-done-2
overflow_add-done-2 c = omega (arith, c.loop-rounds.invariant.planning.upto, few (goal.at.overflow_add-done-2 c).Start)

pub zeros_from-requires : goal.zeros_from-requires
zeros_from-requires c =
    going_place c.args.history (ready (goal.at.zeros_from-requires c).After-spot_of-spot) c.loop-rounds.invariant

pub returns : goal.returns
returns c =
    let p = c.loop-rounds.invariant.planning in
    let n = length c.args.out.now - 3 in
    subst (λ (p : Spot).
    FetchedBy (queue_at c.args.q.buffers p) (over c.args.s c.args.memory.now.ranges.now) c.args.memory.now.bytes.now c.args.coefficients.now c.args.c c.args.adpcm c.args.history n
    c.zeros_from.new.out c.loop-rounds.x)
    c.spot_of-spot.ensures (going_end c.args.history (ready (goal.at.returns c).After-spot_of-spot) c.loop-rounds.invariant (three (goal.at.returns c).Start)
    (elim c.loop-rounds-test.branch [
      | then-loop-rounds-test+else-going w ↦ plan_stop p w.if-going.false
      | else-loop-rounds-test w ↦ plan_full p w.loop-rounds-test.false
    ])
    c.zeros_from.ensures)
