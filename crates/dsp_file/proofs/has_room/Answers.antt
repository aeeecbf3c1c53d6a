-- `dsp_file::has_room` meets its contract. Assumes nothing.
use Rattle.dsp_file.specs.File.{has_room}
use Rattle.dsp_file.proofs.has_room.Goals as goal

pub returns : goal.returns
unfolding has_room
returns c = c.inside.ensures
