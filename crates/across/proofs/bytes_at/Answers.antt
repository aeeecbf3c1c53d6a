-- `across::bytes_at` meets its contract: a read that is refused gives no byte. Assumes nothing.
use mathlib.Core.Path.{sym, ◌∙◌}
use Rattle.memory.proofs.Bytes.{read_refused}
use Rattle.across.proofs.bytes_at.Goals as goal

pub returns-then-not-readable : goal.returns-then-not-readable
returns-then-not-readable g c = sym (read_refused _ _ _ g.row.N (sym c.readable.ensures ∙ c.if-not-readable.true))
