-- `render::count_render` meets its contract: the first long is stored anew. Assumes nothing.
use Rattle.std.proofs.Common.{ℕ, set, ap, rules}
use Rattle.render.proofs.count_render.Goals as goal

pub returns : goal.returns
returns c = ap (λ (x : ℕ). set c.args.longs.now 0 x) c.wrapping_add_u64.ensures.value
