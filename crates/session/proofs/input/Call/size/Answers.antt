-- `session::Call::size` meets its contract, by the kinds of calls. Assumes nothing.
use Rattle.std.proofs.Common.{Some, ap, sym}
use Rattle.session.specs.declared.input.Call.{Call}
use Rattle.session.specs.Input.{size_of}
use Rattle.session.proofs.input.Call.size.Goals as goal

pub returns-in-Update : goal.returns-in-Update
returns-in-Update c = ap (λ (x : Call). size_of (Some x)) (sym c.in-Update.is)
