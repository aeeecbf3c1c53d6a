-- `render::rooms::enough` meets its contract: the last room has as much as is ever asked for. Assumes nothing.
use Rattle.std.proofs.Common.{ℕ, ◌<◌, subst, arith, leb-true, leb-false}
use Rattle.render.proofs.Fitting.{floats_few, samples_few}
use Rattle.render.proofs.rooms.enough.Goals as goal

pub returns-then-floats-room_floats : goal.returns-then-floats-room_floats
returns-then-floats-room_floats c = (
  λ e. (omega (arith, c.room_floats.ensures, c.if-floats-room_floats.true), omega (arith, c.room_samples.ensures, leb-true _ _ e)),
  λ e.
      let less = subst (λ (x : ℕ). x < c.args.samples) c.room_samples.ensures (leb-false _ _ e) in
      samples_few c.args.k c.args.samples c.requires.1 less,
)

pub returns-else-floats-room_floats : goal.returns-else-floats-room_floats
returns-else-floats-room_floats c =
    let less = subst (λ (x : ℕ). x < c.args.floats) c.room_floats.ensures c.if-floats-room_floats.false in
    (λ e. absurd (omega (arith, leb-true _ _ e, c.if-floats-room_floats.false)), λ e. floats_few c.args.k c.args.floats c.requires.0 less)
