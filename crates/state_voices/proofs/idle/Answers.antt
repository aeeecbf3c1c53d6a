-- `state_voices::idle` meets its contract: the part lent is the words of voice k. Assumes nothing.
use mathlib.Core.Path.{subst}
use Prim.Native.Nat.{◌+◌, ◌*◌}
use Rattle.rows.specs.Lent.{part_cut}
use Rattle.voice_rows.specs.IdleRow.{IdleRow}
use Rattle.state_voices.proofs.idle.Goals as goal

pub returns : goal.returns
returns c =
    λ h. subst IdleRow (part_cut c.args.words.now (10 + c.args.k * 58) 58) (c.idle.ensures h)
