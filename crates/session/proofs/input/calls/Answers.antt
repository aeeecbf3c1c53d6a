-- `session::calls` meets its contract: what is left behind the memory and the count. Assumes nothing.
use mathlib.Core.Path.{ap, ◌∙◌}
use Prim.Native.Nat.{ℕ, ◌+◌}
use Rattle.fields.specs.Fields.{rest_of}
use Rattle.session.proofs.input.calls.Goals as goal

pub returns : goal.returns
returns c =
    c.rest.ensures ∙ ap (λ (n : ℕ). rest_of c.args.input.now (0x40 + n)) c.memory_size-n.ensures
