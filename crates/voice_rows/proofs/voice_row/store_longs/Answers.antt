-- `voice_rows::store_longs` meets its contract: the first 2, and then 3 for each wave buffer. Assumes nothing.
use mathlib.Core.Path.{ap, ◌∙◌}
use native.Mathlib.Omega.{arith}
use Rattle.rows.specs.Rows.{put}
use Rattle.rows.specs.Tables.{join_begin, join_room, join_step, join_end}
use Rattle.voice_rows.specs.WaveRow.{longs_of_wave, length_wave_longs}
use Rattle.voice_rows.specs.VoiceRow.{top_of, longs_of, length_top}
use Rattle.voice_rows.proofs.Waves.{waves_joined}
use Rattle.voice_rows.proofs.voice_row.store_longs.Goals as goal

pub loop-k-init : goal.loop-k-init
loop-k-init c = join_begin _ _ _ _ _ (omega (arith, c.requires, c.copy_in.auto.s))

pub store_wave_longs-requires : goal.store_wave_longs-requires
store_wave_longs-requires c =
    join_room c.loop-k.invariant (λ i. length_wave_longs _) c.loop-k-test.true (omega (arith, c.requires, c.copy_in.auto.s))

pub loop-k-preserved : goal.loop-k-preserved
loop-k-preserved c =
    join_step c.loop-k.invariant (λ i. length_wave_longs _) c.loop-k-test.true (omega (arith, c.requires, c.copy_in.auto.s)) c.store_wave_longs.ensures

pub returns : goal.returns
unfolding top_of longs_of
returns c =
    waves_joined (top_of c.args.v) longs_of_wave c.args.v 2 3 (length_top c.args.v) length_wave_longs c.args.longs.now c.args.at (omega (arith, c.requires))
    (c.copy_in.ensures ∙ ap (put c.args.longs.now c.args.at) c.top_of.ensures)
    (join_end c.loop-k.invariant (λ i. length_wave_longs _) c.loop-k-test.false)
