-- `frames::write_sink` meets its contract by the search's outcome. Assumes nothing.
use mathlib.Core.Path.{ap, ◌∙◌}
use mathlib.Core.List.{List, ◌++◌}
use Prim.Native.Nat.{◌*◌}
use lib.ListN.{drop}
use lib.Ieee.{Float}
use Rattle.frames.specs.Laws.{frames_some, frames_none}
use Rattle.frames.proofs.write_sink.Goals as goal

pub returns-in-Some : goal.returns-in-Some
returns-in-Some c =
    let a = c.args in
    c.write_row.ensures
    ∙ ap (λ (xs : List Float). xs ++ drop (2 * a.n) a.out.now) (frames_some a.buffers.now a.n a.offset a.words.now a.floats.now a.sinks c.in-Some.ensures.found)

pub returns-in-None : goal.returns-in-None
returns-in-None c =
    let a = c.args in
    c.write_sink.ensures
    ∙ ap (λ (xs : List Float). xs ++ drop (2 * a.n) a.out.now) (frames_none a.buffers.now a.n a.offset a.words.now a.floats.now a.sinks c.in-None.ensures.found _ _)
