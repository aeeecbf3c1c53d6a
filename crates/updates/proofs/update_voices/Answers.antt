-- `updates::update_voices` meets its contract: the rows that are lent come back in their places. Assumes nothing.
use Rattle.state.specs.State.{State, state_of}
use Rattle.updates.specs.VoiceRows.{lent_sized, voices_back}
use Rattle.updates.proofs.update_voices.Goals as goal
use Rattle.updates.proofs.update_voices.Goals.{Start}

-- the state that the call was given
abbrev given : Start → State
given c = state_of c.args.words.now c.args.longs.now c.args.floats.now c.args.contexts.now c.args.history.now

pub update_voices-requires : goal.update_voices-requires
update_voices-requires c =
    lent_sized c.args.revision c.args.d.now c.args.n (given (goal.at.update_voices-requires c).Start) c.requires

pub returns : goal.returns
returns c =
    voices_back c.args.revision c.args.d.now c.args.n (given (goal.at.returns c).Start) c.requires c.update_voices.ensures.words_after c.update_voices.ensures.longs_after c.update_voices.ensures.floats_after c.update_voices.ensures.contexts_after c.update_voices.ensures.history_after
