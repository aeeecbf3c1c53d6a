-- `renderer::open` meets its contract. Assumes nothing.
use Rattle.std.proofs.Common.{rules}
use Rattle.std.proofs.lemmas.Result.{err_from_is_err_and}
use Rattle.renderer.specs.Made.{open_not, allowed, open_three, sized, open_done}
use Rattle.renderer.proofs.Back.{open_back}
use Rattle.renderer.proofs.open.Goals as goal

pub returns-in_err-allowed : goal.returns-in_err-allowed
returns-in_err-allowed c =
    let p = err_from_is_err_and c.from_residual.result c.from_residual.ensures.1 in
    rw p.1 (open_not _ c.allowed.ensures c.in_err-allowed.was _ p.2)

pub places_of-at-requires : goal.places_of-at-requires
places_of-at-requires c = allowed _ c.allowed.ensures c.in_ok-allowed.was

pub returns-then-not-lengths_right : goal.returns-then-not-lengths_right
returns-then-not-lengths_right c =
    open_three _ c.allowed.ensures c.in_ok-allowed.was _ c.places_of-at.ensures.0 c.lengths_right.ensures c.if-not-lengths_right.true-raw

pub open_state-requires : goal.open_state-requires
open_state-requires c = record {
  allowed = allowed _ c.allowed.ensures c.in_ok-allowed.was;
  sized = sized _ c.allowed.ensures c.in_ok-allowed.was _ c.places_of-at.ensures.0 c.lengths_right.ensures c.if-not-lengths_right.false-raw;
}

pub returns : goal.returns
returns c =
    open_back c.open_state.new.s
    (open_done _ c.allowed.ensures c.in_ok-allowed.was _ c.places_of-at.ensures.0 c.lengths_right.ensures
    c.if-not-lengths_right.false-raw c.open_state.ensures.made)
    (search rules) (search rules) (search rules) (search rules) (search rules)
