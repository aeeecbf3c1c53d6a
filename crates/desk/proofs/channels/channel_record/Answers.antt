-- `channels::channel_record` meets its contract. Assumes nothing.
use Rattle.desk.specs.Channels.{channel_record, channel_step}
use Rattle.desk.proofs.channels.channel_record.Goals as goal

pub returns : goal.returns
unfolding channel_step channel_record
returns c = cc
