-- `frames::write_row` meets its contract: what it hands over is the sink's row. Assumes nothing.
use mathlib.Core.Path.{◌∙◌}
use mathlib.Core.List.{◌++◌}
use Prim.Native.Nat.{◌+◌, ◌*◌}
use lib.ListN.{drop, get_or}
use Rattle.sink.specs.Sink.{sink_of}
use Rattle.frames.specs.Frames.{sink_at}
use Rattle.frames.proofs.write_row.Goals as goal

pub returns : goal.returns
unfolding sink_at
returns c =
    c.write_sink.ensures
    ∙ (λ i. sink_of c.args.buffers.now c.args.n c.args.offset (c.inputs-row.ensures i) (get_or c.args.words.now (c.args.k * 10 + 2) 0) (c.downmix-factors.ensures i) ++ drop (2 * c.args.n) c.args.out.now)
