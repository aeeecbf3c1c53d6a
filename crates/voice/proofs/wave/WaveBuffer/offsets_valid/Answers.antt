-- `WaveBuffer::offsets_valid` meets its contract: each way out is a case of the format. Assumes nothing.
use Rattle.std.proofs.Common.{◌≢◌, ◌∙◌, arith}
use Rattle.voice.specs.Laws.{offsets_pcm16, offsets_float, offsets_adpcm, offsets_other}
use Rattle.voice.proofs.wave.WaveBuffer.offsets_valid.Goals as goal

pub returns-in-2 : goal.returns-in-2
returns-in-2 c = c.both_fit.ensures ∙ offsets_pcm16 c.args.self c.in-2.is

pub returns-in-5 : goal.returns-in-5
returns-in-5 c = c.both_fit-in-5.ensures ∙ offsets_float c.args.self c.in-5.is

pub returns-in-6 : goal.returns-in-6
returns-in-6 c =
    c.both_fit-in-6.ensures
    ∙ offsets_adpcm c.args.self c.in-6.is c.adpcm_size-start.ensures c.adpcm_size-end.ensures

pub returns-in_default : goal.returns-in_default
returns-in_default c =
    let ne2 : c.args.format ≢ 2 = omega arith in
    let ne5 : c.args.format ≢ 5 = omega arith in
    let ne6 : c.args.format ≢ 6 = omega arith in
    offsets_other c.args.self ne2 ne5 ne6
