-- `renderer::reply_length` meets its contract. Assumes nothing.
use Rattle.std.proofs.lemmas.Result.{err_from_is_err_and}
use Rattle.renderer.specs.Made.{length_not, allowed, length_given}
use Rattle.renderer.proofs.reply_length.Goals as goal

pub returns-in_err-allowed : goal.returns-in_err-allowed
returns-in_err-allowed c =
    let p = err_from_is_err_and c.from_residual.result c.from_residual.ensures.1 in
    rw (p.1, p.2) (length_not _ c.allowed.ensures c.in_err-allowed.was _)

pub reply_length-requires : goal.reply_length-requires
reply_length-requires c = allowed _ c.allowed.ensures c.in_ok-allowed.was

pub returns : goal.returns
returns c = length_given _ c.allowed.ensures c.in_ok-allowed.was _ c.reply_length.ensures
