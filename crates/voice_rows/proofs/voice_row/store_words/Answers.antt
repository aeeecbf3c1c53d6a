-- `voice_rows::store_words` meets its contract: the first 26, and then 8 for each wave buffer. Assumes nothing.
use mathlib.Core.Path.{ap, ◌∙◌}
use native.Mathlib.Omega.{arith}
use Rattle.rows.specs.Rows.{put}
use Rattle.rows.specs.Tables.{join_begin, join_room, join_step, join_end}
use Rattle.voice_rows.specs.WaveRow.{words_of_wave, length_wave_words}
use Rattle.voice_rows.specs.VoiceRow.{head_of, words_of, length_head}
use Rattle.voice_rows.proofs.Waves.{waves_joined}
use Rattle.voice_rows.proofs.voice_row.store_words.Goals as goal

pub loop-k-init : goal.loop-k-init
loop-k-init c = join_begin _ _ _ _ _ (omega (arith, c.requires, c.copy_in.auto.s))

pub store_wave_words-requires : goal.store_wave_words-requires
store_wave_words-requires c =
    join_room c.loop-k.invariant (λ i. length_wave_words _) c.loop-k-test.true (omega (arith, c.requires, c.copy_in.auto.s))

pub loop-k-preserved : goal.loop-k-preserved
loop-k-preserved c =
    join_step c.loop-k.invariant (λ i. length_wave_words _) c.loop-k-test.true (omega (arith, c.requires, c.copy_in.auto.s)) c.store_wave_words.ensures

pub returns : goal.returns
unfolding head_of words_of
returns c =
    waves_joined (head_of c.args.v) words_of_wave c.args.v 26 8 (length_head c.args.v) length_wave_words c.args.words.now c.args.at (omega (arith, c.requires))
    (c.copy_in.ensures ∙ ap (put c.args.words.now c.args.at) c.head_of.ensures)
    (join_end c.loop-k.invariant (λ i. length_wave_words _) c.loop-k-test.false)
