-- `playing::play_channel` meets its contract: what the calls give, put together, is the channel's part. Assumes nothing.
use Prim.Native.Nat.{◌-◌}
use native.Mathlib.Omega.{arith}
use mathlib.Core.Path.{◌≡◌}
use lib.ListN.{length}
use Rattle.plan.specs.Source.{over}
use Rattle.playing.specs.Playing.{material}
use Rattle.playing.specs.Channels.{table_made, kept_made, heard_made}
use Rattle.playing.proofs.play_channel.Goals as goal
use Rattle.playing.proofs.play_channel.Goals.{After-fetch_channel-made}

-- the fetch keeps the row's length
same : (c : After-fetch_channel-made) → length c.fetch_channel-made.new.out ≡ length c.args.src.now
same c = c.fetch_channel-made.auto.out

pub with_tail-requires : goal.with_tail-requires
with_tail-requires c =
    (omega (arith, c.requires.c_lt_channels.0, c.requires.ready.channels), omega (arith, same (goal.at.with_tail-requires c).After-fetch_channel-made, c.requires.ready.history))

pub returns : goal.returns
returns c =
    let source = over c.args.s c.args.memory.now.ranges.now in
    let w = material c.args.q source c.args.memory.now.bytes.now (length c.args.src.now - 3) c.args.before c.args.ratio c.args.fraction c.args.n in
    let t = table_made c.args.q source c.args.memory.now.bytes.now (length c.args.src.now - 3) c.requires.coefficients_value in record { value = kept_made w c.args.c t c.three_of-three.ensures c.fetch_channel-made.ensures c.args.kept (λ i. same (goal.at.returns c).After-fetch_channel-made i - 3) c.with_tail.ensures c.context_after.ensures; out_after = heard_made w c.args.c t c.three_of-three.ensures c.fetch_channel-made.ensures c.args.out.now c.hear.ensures }
