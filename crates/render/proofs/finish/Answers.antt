-- `render::finish` meets its contract: the sink takes the mix buffers as the sub_mixes leave them, and a row of zeros. Assumes nothing.
use Rattle.std.proofs.Common.{◌*◌, ◌++◌, drop, ◌∙◌}
use mir.Facts.{Fits-below}
use Rattle.desk_render.specs.DeskRender.{frames_by}
use Rattle.render.specs.Laws.{silent}
use Rattle.render.proofs.Fitting.{length_kept}
use Rattle.render.proofs.finish.Goals as goal

pub render_mixes-requires : goal.render_mixes-requires
render_mixes-requires c = record { fact_1 = c.requires.fact_1; fact_2 = c.requires.fact_2 }

pub overflow_cast-n : goal.overflow_cast-n
overflow_cast-n c =
    Fits-below tt c.requires.fact_1.allowed.samples

pub zeros-requires : goal.zeros-requires
zeros-requires c =
    length_kept c.render_mixes.auto.row c.requires.fact_2

pub write_sink-requires : goal.write_sink-requires
write_sink-requires c = record { fact_1 = c.requires.fact_1; fact_2 = silent c.args.p.sample_count _ c.zeros.ensures; fact_3 = c.requires.fact_3 }

pub returns : goal.returns
returns c =
    let rest = drop (2 * c.args.p.sample_count) c.args.frames.now in
    c.write_sink.ensures ∙ (λ i. frames_by c.args.p c.args.words.now c.args.floats.now (c.render_mixes.ensures i) ++ rest)
