-- `state_voices::begin_voice` meets its contract: by whether the voice takes part. Assumes nothing.
use Rattle.state.specs.State.{state_of}
use Rattle.state_voices.specs.Rows.{position_inside, sound_inside}
use Rattle.state_voices.specs.Keeps.{taken_sized}
use Rattle.state_voices.specs.Made.{loaded_playing, begun_part, begun_none}
use Rattle.state_voices.proofs.begin_voice.Goals as goal

pub load_voice_at-v-requires : goal.load_voice_at-v-requires
load_voice_at-v-requires c = position_inside c.requires.allowed c.requires.sized c.requires.inside

pub take_fresh-requires : goal.take_fresh-requires
take_fresh-requires c =
    let y = loaded_playing c.load_voice_at-v.ensures c.requires.playing in record { ids = y.ids; room = (y.channels, c.requires.sized.floats) }

pub begin-b-requires : goal.begin-b-requires
begin-b-requires c =
    let y = loaded_playing c.load_voice_at-v.ensures c.requires.playing in record { base_index_bound = y.base; index_bound = y.index }

pub store_prepared-requires : goal.store_prepared-requires
store_prepared-requires c =
    let z = taken_sized c.requires.sized (loaded_playing c.load_voice_at-v.ensures c.requires.playing) c.take_fresh.ensures in record { position = position_inside c.requires.allowed z c.requires.inside; sound = sound_inside c.requires.allowed z c.requires.inside }

pub returns : goal.returns
returns c =
    begun_part c.args.p c.args.k (state_of c.args.words.now c.args.longs.now c.args.floats.now c.args.contexts.now c.args.history.now) c.load_voice_at-v.ensures c.takes_part.ensures
    c.if-not-takes_part.false c.take_fresh.ensures c.begin-b.ensures c.store_prepared.ensures

pub returns-then-not-takes_part : goal.returns-then-not-takes_part
returns-then-not-takes_part c =
    begun_none c.args.p c.args.k (state_of c.args.words.now c.args.longs.now c.args.floats.now c.args.contexts.now c.args.history.now) c.load_voice_at-v.ensures c.takes_part.ensures c.if-not-takes_part.true
