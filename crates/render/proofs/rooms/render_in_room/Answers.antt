-- `render::rooms::render_in_room` meets its contract: so many zeros are room for the desk. Assumes nothing.
use Rattle.std.proofs.Common.{arith}
use lib.Ieee.{of_bits}
use Rattle.render.proofs.Fitting.{blank_of, rows_of}
use Rattle.render.proofs.rooms.render_in_room.Goals as goal

pub whole_as_slice-render_lent : goal.whole_as_slice-render_lent
whole_as_slice-render_lent g c = omega (arith, c.requires.room.few.0)

pub whole_as_slice-render_lent-2 : goal.whole_as_slice-render_lent-2
whole_as_slice-render_lent-2 g c = omega (arith, c.requires.room.few.1)

pub whole_as_slice-render_lent-3 : goal.whole_as_slice-render_lent-3
whole_as_slice-render_lent-3 g c = omega (arith, c.requires.room.few.2)

pub render_lent-requires : goal.render_lent-requires
unfolding of_bits
render_lent-requires g c = record {
  fact_1 = c.requires.playing;
  fact_2 = c.requires.frames_room;
  fact_3 = blank_of c.requires.room;
  fact_4 = rows_of c.requires.room;
}
