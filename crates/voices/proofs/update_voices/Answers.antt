-- `voices::update_voices` meets its contract: one turn of the loop is one step. Assumes nothing.
use mathlib.Core.Path.{refl, ap}
use Rattle.rows.specs.Loops.{turn_begin, turn_more, turn_end}
use Rattle.voices.specs.Voices.{VoiceRows, voices_of}
use Rattle.voices.specs.Own.{step_sized}
use Rattle.voices.proofs.update_voices.Goals as goal

pub loop-k-init : goal.loop-k-init
loop-k-init c = turn_begin _ _ _ _ c.requires

pub update_one-requires : goal.update_one-requires
update_one-requires c = record { voices_sized = c.loop-k.invariant.kept; k_lt_n = c.loop-k-test.true }

pub loop-k-preserved : goal.loop-k-preserved
loop-k-preserved c =
    turn_more c.loop-k.invariant c.loop-k-test.true (step_sized _ _ _ _ _ c.loop-k-test.true) c.update_one.ensures

pub returns : goal.returns
unfolding voices_of
returns c =
    let e = turn_end c.loop-k.invariant c.loop-k-test.false refl in
    let words = ap (λ (st : VoiceRows). st.words) e in
    let longs = ap (λ (st : VoiceRows). st.longs) e in
    let floats = ap (λ (st : VoiceRows). st.floats) e in
    let contexts = ap (λ (st : VoiceRows). st.contexts) e in
    let history = ap (λ (st : VoiceRows). st.history) e in record { words_after = words; longs_after = longs; floats_after = floats; contexts_after = contexts; history_after = history }
