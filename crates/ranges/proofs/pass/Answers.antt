-- `ranges::pass` meets its contract: each way out is one case of where the place lies. Assumes nothing.
use Rattle.std.proofs.Common.{◌≡◌, ◌-◌, sym, ◌∙◌, arith}
use Rattle.ranges.specs.Ranges.{room_of}
use Rattle.ranges.proofs.Holds.{holds_inside, holds_below, holds_past}
use Rattle.ranges.proofs.Laws.{at_held, at_kept, left_held, left_kept}
use Rattle.ranges.proofs.pass.Goals as goal

pub returns-then-at-base : goal.returns-then-at-base
returns-then-at-base c =
    let a = c.args in
    let t = holds_below a.base a.size a.at (omega arith) in
    (sym (at_kept _ _ _ t), sym (left_kept _ _ _ _ t))

pub returns-then-size-gone : goal.returns-then-size-gone
returns-then-size-gone c =
    let a = c.args in
    let t = holds_past a.base a.size a.at (omega arith) (omega arith) in
    (sym (at_kept _ _ _ t), sym (left_kept _ _ _ _ t))

pub returns-then-left-room : goal.returns-then-left-room
returns-then-left-room c =
    let a = c.args in
    let t = holds_inside a.base a.size a.at (omega arith) (omega arith) in
    let none : 0 ≡ a.left - room_of a.base a.size a.at = omega arith in
    (sym (at_held _ _ _ t), none ∙ sym (left_held _ _ _ _ t))

pub returns : goal.returns
returns c =
    let a = c.args in
    let t = holds_inside a.base a.size a.at (omega arith) (omega arith) in
    (sym (at_held _ _ _ t), sym (left_held _ _ _ _ t))
