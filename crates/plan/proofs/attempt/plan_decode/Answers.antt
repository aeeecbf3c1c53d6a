-- `plan::plan_decode` meets its contract: each way out is a case of the format. Assumes nothing.
use Rattle.std.proofs.Common.{◌∙◌, arith}
use Rattle.plan.specs.Laws.{decode_none, decode_pcm16, decode_float, decode_adpcm_lem, decode_other}
use Rattle.plan.specs.Source.{over}
use Rattle.plan.proofs.attempt.plan_decode.Goals as goal

pub returns-then-want-eq0 : goal.returns-then-want-eq0
returns-then-want-eq0 c = decode_none (over c.args.s c.args.ranges.now) c.args.wb c.args.start c.args.want c.if-want-eq0.true

pub returns-in-2 : goal.returns-in-2
returns-in-2 c =
    c.plan_pcm.ensures ∙ decode_pcm16 (over c.args.s c.args.ranges.now) c.args.wb c.args.start c.args.want c.if-want-eq0.false c.in-2.is

pub returns-in-5 : goal.returns-in-5
returns-in-5 c =
    c.plan_pcm-in-5.ensures ∙ decode_float (over c.args.s c.args.ranges.now) c.args.wb c.args.start c.args.want c.if-want-eq0.false c.in-5.is

pub returns-in-6 : goal.returns-in-6
returns-in-6 c =
    c.plan_adpcm.ensures ∙ decode_adpcm_lem (over c.args.s c.args.ranges.now) c.args.wb c.args.start c.args.want c.if-want-eq0.false c.in-6.is

pub returns-in_default : goal.returns-in_default
returns-in_default c =
    decode_other (over c.args.s c.args.ranges.now) c.args.wb c.args.start c.args.want c.if-want-eq0.false (λ e. omega arith) (λ e. omega arith) (λ e. omega arith)
