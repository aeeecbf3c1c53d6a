-- `renderer::lengths` meets its contract. Assumes nothing.
use Rattle.std.proofs.lemmas.Result.{err_from_is_err_and}
use Rattle.renderer.specs.Made.{lengths_not, allowed, lengths_given_lem}
use Rattle.renderer.proofs.lengths.Goals as goal

pub returns-in_err-allowed : goal.returns-in_err-allowed
returns-in_err-allowed c =
    let p = err_from_is_err_and c.from_residual.result c.from_residual.ensures.1 in
    rw (p.1, p.2) (lengths_not _ c.allowed.ensures c.in_err-allowed.was)

pub places_of-at-requires : goal.places_of-at-requires
places_of-at-requires c = allowed _ c.allowed.ensures c.in_ok-allowed.was

pub returns : goal.returns
returns c = lengths_given_lem _ c.allowed.ensures c.in_ok-allowed.was c.places_of-at.ensures.0
