-- `cabi::answers::reply_length_told` meets its contract. Assumes nothing.
use Rattle.std.proofs.Common.{ℕ, ap, sym, ◌∙◌}
use Rattle.calls.specs.Calls.{length_left}
use Rattle.renderer.specs.Answers.{reply_length_seen}
use Rattle.cabi.proofs.answers.reply_length_told.Goals as goal

pub returns-in-Ok : goal.returns-in-Ok
returns-in-Ok c = ap reply_length_seen (sym c.in-Ok.is)

pub returns-in-Err : goal.returns-in-Err
returns-in-Err c = ap (λ (n : ℕ). length_left n 0) c.number.ensures ∙ ap reply_length_seen (sym c.in-Err.is)
