-- `voice_rows::load_voice` meets its contract: the voice is made of the rows copied out and of the four wave buffers. Assumes nothing.
use mathlib.Core.Path.{◌∙◌}
use native.Mathlib.Omega.{arith}
use Rattle.voice_rows.specs.VoiceRow.{voice_made}
use Rattle.voice_rows.proofs.voice_row.load_voice.Goals as goal

pub load_wave-requires-3 : goal.load_wave-requires-3
load_wave-requires-3 c = omega (arith, c.requires)

pub load_wave-requires-4 : goal.load_wave-requires-4
load_wave-requires-4 c = omega (arith, c.requires)

pub returns : goal.returns
returns c =
    c.voice_of.ensures
    ∙ voice_made c.args.words.now c.args.longs.now c.args.floats.now c.copy_out.ensures c.copy_out-2.ensures c.copy_out-3.ensures c.play_of.ensures
    c.load_wave.ensures c.load_wave-2.ensures c.load_wave-3.ensures c.load_wave-4.ensures
