-- `dsp_file::dsp_data` meets its contract. Assumes nothing.
use Rattle.dsp_file.specs.File.{data_of}
use Rattle.dsp_file.proofs.dsp_data.Goals as goal

pub returns : goal.returns
unfolding data_of
returns c = c.rest.ensures
