-- `voice_turn::send_turn` meets its contract: by whether the voice has a destination. Assumes nothing.
use Rattle.sending.specs.Sending.{route_out}
use Rattle.voice_turn.specs.Made.{buffers_sent, floats_sent, buffers_left, floats_left}
use borrow.Author.Rules.{rules}
use Rattle.voice_turn.proofs.send_turn.Goals as goal

pub send-requires : goal.send-requires
send-requires c = record { allowed_1 = c.requires.allowed; allowed_2 = (c.requires.words, c.requires.floats); allowed_3 = (c.requires.some, c.requires.few, c.requires.rows); mixes_1 = c.requires.mixes; mixes_2 = c.requires.lists; mixes_3 = c.requires.ids }

pub returns-then-has_destination : goal.returns-then-has_destination
returns-then-has_destination c =
    let o = route_out c.args.from c.args.to c.args.p.sample_count c.args.v.channels c.args.out.now in record { buffers_after = buffers_sent c.args.p c.args.v o c.args.words.now c.args.floats.now c.args.buffers.now c.has_destination.ensures c.if-has_destination.true c.send.ensures.buffers_after; floats_after = floats_sent c.args.p c.args.v o c.args.words.now c.args.floats.now c.args.buffers.now c.has_destination.ensures c.if-has_destination.true c.send.ensures.floats_after }

pub returns-else-has_destination : goal.returns-else-has_destination
returns-else-has_destination c =
    let o = route_out c.args.from c.args.to c.args.p.sample_count c.args.v.channels c.args.out.now in record { buffers_after = buffers_left c.args.p c.args.v o c.args.words.now c.args.floats.now c.args.buffers.now c.has_destination.ensures c.if-has_destination.false; floats_after = floats_left c.args.p c.args.v o c.args.words.now c.args.floats.now c.args.buffers.now c.has_destination.ensures c.if-has_destination.false }
