-- `playing::play_channels` meets its contract: after each channel, what is kept and heard is that of the channels so far. Assumes nothing.
use Prim.Native.Nat.{ℕ, ◌-◌}
use mathlib.Core.Path.{ap, ◌∙◌}
use Rattle.plan.specs.Source.{over}
use Rattle.sound.specs.Sound.{table_of}
use Rattle.playing.specs.Playing.{material}
use Rattle.playing.specs.Channels.{ready_same, sounding_none, sounding_room, sounding_more, sounding_heard, sounding_kept}
use Rattle.playing.proofs.play_channels.Goals as goal

pub loop-c-init : goal.loop-c-init
loop-c-init c = sounding_none _ _ _

pub play_channel-kept-requires : goal.play_channel-kept-requires
play_channel-kept-requires c =
    let p = c.loop-c.invariant in record {
      ready = ready_same p.row c.requires.ready;
      coefficients_value = c.coefficients-coefficients.ensures ∙ (λ i. table_of (c.requires.table_value i) (over c.args.s c.args.ranges.now) c.args.memory.now);
      c_lt_channels = (
        c.loop-c-test.true,
        c.requires.n_in_bounds.1,
        sounding_room p c.loop-c-test.true c.requires.n_in_bounds.0,
      );
    }

pub loop-c-preserved : goal.loop-c-preserved
loop-c-preserved c =
    let p = c.loop-c.invariant in
    sounding_more p c.loop-c-test.true
    (ap (λ (l : ℕ). material c.args.q (over c.args.s c.args.ranges.now) c.args.memory.now (l - 3) c.args.sound c.args.ratio c.args.fraction c.args.n) p.row)
    c.play_channel-kept.ensures.value c.play_channel-kept.ensures.out_after
    c.play_channel-kept.auto.src c.play_channel-kept.auto.out

pub returns : goal.returns
returns c =
    let p = c.loop-c.invariant in record { value = sounding_kept p c.loop-c-test.false c.requires.ready.some; out_after = sounding_heard p c.loop-c-test.false }
