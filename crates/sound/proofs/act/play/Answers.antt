-- `sound::play` meets its contract: what the decode leaves of the part, said of the whole row. Assumes nothing.
use Prim.Native.Nat.{◌≤◌}
use native.Mathlib.Omega.{arith}
use borrow.Author.Rules.{rules}
use lib.ListN.{length}
use Rattle.plan.specs.Source.{over}
use Rattle.sound.specs.Perform.{performed_at}
use Rattle.rows.specs.Lent.{rest_lent, rest_returned}
use Rattle.sound.proofs.act.play.Goals as goal

pub play_decode-requires : goal.play_decode-requires
play_decode-requires c = record {
  room = record {
    memory = c.requires.room_at.memory;
    channels = c.requires.room_at.channels;
    want = search rules;
    few = c.requires.room_at.few;
    reads = c.requires.room_at.reads;
    formed = c.requires.room_at.formed;
  };
  c_lt_channels = c.requires.c_lt_channels;
}

pub returns : goal.returns
returns c =
    let h : c.args.at ≤ length c.args.out.now = omega (arith, c.requires.room_at.want) in
    performed_at (over c.args.s c.args.memory.now.ranges.now) c.args.memory.now.bytes.now c.args.coefficients.now c.args.c c.args.a c.args.x c.args.at c.renew-y.ensures
    (rest_lent c.args.out.now c.args.at h) (rest_returned c.args.out.now c.args.at h _) c.play_decode.ensures
