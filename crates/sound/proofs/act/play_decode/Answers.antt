-- `sound::play_decode` meets its contract: each arm is a case of the decode. Assumes nothing.
use Rattle.plan.specs.Source.{over}
use Rattle.sound.specs.Perform.{room_is, on_nothing, on_pcm, on_adpcm, on_silence}
use Rattle.sound.proofs.act.play_decode.Goals as goal

pub pcm-requires : goal.pcm-requires
pcm-requires c =
    let r = room_is c.in-Pcm.is c.requires.room in record { width_value = (r.formed, r.channels, c.requires.c_lt_channels, r.want); channels_value = r.reads }

pub play_adpcm-requires : goal.play_adpcm-requires
play_adpcm-requires c =
    let r = room_is c.in-Adpcm.is c.requires.room in record { bytes_value = (r.reads, r.formed); want_in_bounds = (r.want, r.few) }

pub zeros-requires : goal.zeros-requires
zeros-requires c =
    (room_is c.in-Silence.is c.requires.room).want

pub returns-in-Nothing : goal.returns-in-Nothing
returns-in-Nothing c =
    on_nothing (over c.args.s c.args.memory.now.ranges.now) c.args.memory.now.bytes.now c.args.coefficients.now c.args.c c.args.x c.args.out.now c.in-Nothing.is

pub returns-in-Pcm : goal.returns-in-Pcm
returns-in-Pcm c =
    on_pcm (over c.args.s c.args.memory.now.ranges.now) c.args.memory.now.bytes.now c.args.coefficients.now c.args.c c.args.x _ _ _ c.in-Pcm.is
    c.pcm.ensures

pub returns-in-Adpcm : goal.returns-in-Adpcm
returns-in-Adpcm c =
    on_adpcm (over c.args.s c.args.memory.now.ranges.now) c.args.memory.now.bytes.now c.args.coefficients.now c.args.c c.args.x _ _ _ _ c.in-Adpcm.is
    c.play_adpcm.ensures

pub returns-in-Silence : goal.returns-in-Silence
returns-in-Silence c =
    on_silence (over c.args.s c.args.memory.now.ranges.now) c.args.memory.now.bytes.now c.args.coefficients.now c.args.c c.args.x _ c.in-Silence.is
    c.zeros.ensures
