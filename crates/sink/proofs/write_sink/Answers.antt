-- `sink::write_sink` meets its contract: the rows lent are the inputs', and each count of inputs has its frames. Assumes nothing.
use Rattle.std.proofs.Common.{◌≡◌, List, refl, ◌∙◌, arith}
use Rattle.std.specs.Prelude.{Option, None, Some}
use Rattle.std.specs.Option.{unwrap_or}
use lib.Ieee.{Float, of_bits, round}
use Rattle.sink.specs.Sink.{factors_of}
use Rattle.sink.proofs.Inputs.{row_long, none, single, pair, six}
use Rattle.sink.proofs.write_sink.Goals as goal

-- the given factors, or the default ones
downmix_or : (d : Option (List Float)) {default k : List Float} → default ≡ factors_of None → k ≡ unwrap_or d default → k ≡ factors_of d
unfolding factors_of
downmix_or None e q = q ∙ e
downmix_or (Some x) e q = q

pub returns-then-count-eq0 : goal.returns-then-count-eq0
returns-then-count-eq0 c =
    none c.args.buffers.now c.args.silent.now c.args.n c.args.offset c.args.inputs c.args.count c.args.downmix c.args.out.now _ c.requires.fact_2 c.if-count-eq0.true c.stereo.ensures

pub stereo-requires-then-count-eq1 : goal.stereo-requires-then-count-eq1
stereo-requires-then-count-eq1 c =
    let long = row_long _ _ _ _ _ c.requires.fact_2 c.channel-left.ensures in
    (c.requires.fact_1.0, long, long)

pub returns-then-count-eq1 : goal.returns-then-count-eq1
returns-then-count-eq1 c =
    single c.args.buffers.now c.args.silent.now c.args.n c.args.offset c.args.inputs c.args.count c.args.downmix c.args.out.now _ c.requires.fact_2 _ c.channel-left.ensures c.if-count-eq1.true c.stereo-then-count-eq1.ensures

pub stereo-requires-then-count-lt6 : goal.stereo-requires-then-count-lt6
stereo-requires-then-count-lt6 c =
    (c.requires.fact_1.0, row_long _ _ _ _ _ c.requires.fact_2 c.channel-left.ensures, row_long _ _ _ _ _ c.requires.fact_2 c.channel-right.ensures)

pub returns-then-count-lt6 : goal.returns-then-count-lt6
returns-then-count-lt6 c =
    pair c.args.buffers.now c.args.silent.now c.args.n c.args.offset c.args.inputs c.args.count c.args.downmix c.args.out.now _ c.requires.fact_2 _ c.channel-left.ensures c.if-count-eq0.false c.if-count-eq1.false _ c.channel-right.ensures
    (omega (arith, c.if-count-lt6.true)) c.stereo-then-count-lt6.ensures

pub invariant_of-rows : goal.invariant_of-rows
invariant_of-rows c =
    let z = c.requires.fact_2 in
    record {
      front_long = (row_long _ _ _ _ _ z c.channel-left.ensures, row_long _ _ _ _ _ z c.channel-right.ensures);
      middle_long = (row_long _ _ _ _ _ z c.channel.ensures, row_long _ _ _ _ _ z c.channel-2.ensures);
      back_long = (row_long _ _ _ _ _ z c.channel-3.ensures, row_long _ _ _ _ _ z c.channel-4.ensures);
    }

pub returns : goal.returns
unfolding factors_of of_bits round
returns c =
    six c.args.buffers.now c.args.silent.now c.args.n c.args.offset c.args.inputs c.args.count c.args.downmix c.args.out.now _ c.requires.fact_2 _ c.channel-left.ensures c.if-count-eq0.false c.if-count-eq1.false _ c.channel-right.ensures (omega (arith, c.if-count-lt6.false))
    _ _ _ _ c.channel.ensures c.channel-2.ensures c.channel-3.ensures c.channel-4.ensures
    _ (downmix_or c.args.downmix refl c.unwrap_or.ensures) c.surround.ensures
