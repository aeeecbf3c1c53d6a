-- `session::call_count` meets its contract: the field behind the memory. Assumes nothing.
use mathlib.Core.Path.{ap, ◌∙◌}
use Prim.Native.Nat.{ℕ, ◌+◌}
use Rattle.fields.specs.Fields.{field_at}
use Rattle.session.proofs.input.call_count.Goals as goal

pub returns : goal.returns
returns c =
    c.u32_at.ensures ∙ ap (λ (n : ℕ). field_at 4 c.args.input.now (0x3c + n)) c.memory_size-n.ensures
