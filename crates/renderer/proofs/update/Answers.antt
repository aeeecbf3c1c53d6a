-- `renderer::update` meets its contract. Assumes nothing.
use Rattle.std.proofs.Common.{rules}
use Rattle.whole.specs.Whole.{whole_facts}
use Rattle.updates.specs.FromWhole.{whole_updatable}
use Rattle.renderer.specs.Made.{passed, update_four, update_six, update_done_lem}
use Rattle.renderer.proofs.Back.{update_back}
use Rattle.renderer.proofs.update.Goals as goal

pub returns-then-not-whole : goal.returns-then-not-whole
returns-then-not-whole c = update_four _ _ _ _ c.whole.ensures c.if-not-whole.true-raw

pub load-p-requires : goal.load-p-requires
load-p-requires c = (whole_facts _ (passed c.whole.ensures c.if-not-whole.false-raw)).front

pub reply_length-size-requires : goal.reply_length-size-requires
reply_length-size-requires c = rw c.load-p.ensures (whole_facts _ (passed c.whole.ensures c.if-not-whole.false-raw)).allowed

pub returns-then-reply-size : goal.returns-then-reply-size
returns-then-reply-size c = update_six _ _ _ _ c.whole.ensures c.if-not-whole.false-raw c.load-p.ensures c.reply_length-size.ensures c.if-reply-size.true

pub update-requires : goal.update-requires
update-requires c = record {
  updatable = rw c.load-p.ensures (whole_updatable _ (whole_facts _ (passed c.whole.ensures c.if-not-whole.false-raw)));
  reply_room = rw (← c.reply_length-size.ensures) c.if-reply-size.false;
}

pub returns : goal.returns
returns c =
    update_back c.update.new.s
    (update_done_lem _ _ _ _ c.whole.ensures c.if-not-whole.false-raw c.load-p.ensures c.reply_length-size.ensures
    c.if-reply-size.false c.update.ensures.state_after c.update.ensures.reply_after)
    (search rules) (search rules) (search rules) (search rules) (search rules)
