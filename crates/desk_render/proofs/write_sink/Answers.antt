-- `desk_render::write_sink` meets its contract: the rows that are lent are those of sinks. Assumes nothing.
use native.Mathlib.Omega.{arith}
use Prim.Native.Nat.{◌*◌}
use lib.ListN.{drop}
use Rattle.desk_render.specs.Laws.{sinks_lent, framed}
use Rattle.desk_render.proofs.write_sink.Goals as goal

pub write_sink-requires : goal.write_sink-requires
write_sink-requires c = record { fact_1 = (c.requires.fact_3, omega (arith, c.requires.fact_1.allowed.samples), omega arith); fact_2 = c.requires.fact_2; fact_3 = sinks_lent c.places_of-at.ensures.1 c.requires.fact_1 }

pub returns : goal.returns
returns c =
    framed c.places_of-at.ensures.1 c.requires.fact_1 c.args.buffers.now (drop (2 * c.args.p.sample_count) c.args.frames.now) c.write_sink.ensures
