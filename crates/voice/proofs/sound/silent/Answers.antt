-- `voice::silent` meets its contract: zeros throughout. Assumes nothing.
use Rattle.std.specs.Prelude.{replicate, pos, false}
use Rattle.std.specs.Float.{fin}
use lib.Ieee.{of_bits}
use Rattle.voice.specs.Sound.{silent_sound}
use Rattle.voice.proofs.sound.silent.Goals as goal

pub returns : goal.returns
unfolding silent_sound of_bits
returns c =
    let h = c.default.ensures in
    λ i. record {
      adpcm = record { pred_scale = h.0 i; history0 = h.1.0 i; history1 = h.1.1 i };
      history = record { samples = replicate 18 (fin false 0 (pos 0)) };
    }
