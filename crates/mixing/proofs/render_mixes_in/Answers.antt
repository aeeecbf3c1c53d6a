-- `mixing::render_mixes_in` meets its contract: the three steps, one after the other. Assumes nothing.
use Rattle.desk_order.specs.Laws.{mix_order_below}
use Rattle.mixing.specs.Laws.{mixed_down_from}
use Rattle.desk_order.proofs.Front.{front_long, front_fits, front_below}
use Rattle.mixing.proofs.render_mixes_in.Goals as goal

pub slice_bounds-run_mixes-end : goal.slice_bounds-run_mixes-end
slice_bounds-run_mixes-end c = front_fits _ c.mix_order-count.ensures.0 c.mix_order-count.ensures.1

pub slice_bounds-run_mixes-end-2 : goal.slice_bounds-run_mixes-end-2
slice_bounds-run_mixes-end-2 c = front_long _ c.mix_order-count.ensures.0 c.mix_order-count.ensures.1

pub run_mixes-requires-clause-mixes : goal.run_mixes-requires-clause-mixes
run_mixes-requires-clause-mixes c =
    front_below _ c.mix_order-count.ensures.0 c.mix_order-count.ensures.1 _ (mix_order_below _ _ _ _ _ c.args.mixer.now.desk.mixes.whole.one)

pub returns : goal.returns
returns c =
    mixed_down_from _ _ _ _ _ _ _ _ _ c.mix_order-count.ensures.1 c.run_mixes.ensures (rw c.run_mixes.auto.src at c.final_volume.ensures)
