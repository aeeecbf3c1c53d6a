-- `dsp_file::holds_samples` meets its contract. Assumes nothing.
use Prim.Native.Nat.{ℕ}
use mathlib.Core.Path.{ap, ◌∙◌}
use lib.Dec.{leb}
use Rattle.adpcm.specs.Places.{size_of}
use Rattle.dsp_file.specs.File.{holds_samples}
use Rattle.dsp_file.proofs.holds_samples.Goals as goal

pub returns : goal.returns
unfolding holds_samples
returns c = ap (λ (n : ℕ). leb n c.args.bytes) (c.adpcm_size-size.ensures ∙ ap size_of c.from.ensures)
