-- Every row of the table of examples gives what is to come out. Assumes nothing.
use mathlib.Core.Path.{◌≡◌, refl}
use mathlib.Core.List.{map}
use Rattle.adpcm.specs.Places.{nibble_of, size_of}
use Rattle.adpcm.specs.Step.{signed4, clamp_z, step_of}
use Rattle.adpcm.specs.Decode.{value_of, took_of, run_from}
use lib.Ieee.{add, sub, mul, of_int, to_unsigned, to_bits}
use Rattle.resample.specs.Defs.{needed_of, next_of}
use Rattle.params.specs.Examples.{excess}
use Rattle.params.specs.Sizes.{effects_bytes, fixed_of, pools_of, info_bytes, revision_of}
use Rattle.voice.specs.Wave.{bytes_before, offsets_valid}
use Rattle.examples.specs.Examples.{Row, p1, p2, p3, p4, p5, p6, p7, p8, table}

pub right : map (λ (r : Row). r.gives) table ≡ map (λ (r : Row). r.says) table
unfolding nibble_of size_of signed4 clamp_z step_of value_of took_of run_from needed_of next_of add sub mul of_int to_unsigned to_bits p1 p2 p3 p4 p5 p6 p7 p8 excess effects_bytes fixed_of pools_of info_bytes revision_of bytes_before offsets_valid table
right = refl
