-- `open_state` meets its contract: the five slices are what the state has. Assumes nothing.
use lib.Ieee.{of_bits}
use Rattle.slices.specs.Slices.{held}
use Rattle.opened.specs.Written.{state_written}
use Rattle.opened.proofs.open_state.Goals as goal

pub returns-clause-made : goal.returns-clause-made
unfolding of_bits
returns-clause-made c =
    state_written c.args.p (held c.args.s.now) c.requires.sized
    c.open_words.ensures c.fill.ensures c.open_floats.ensures c.fill-2.ensures c.fill-3.ensures
