-- A turn of `update_voices`: the rows that it asks for, and the step that it is, by what the record says. Assumes nothing.
use Rattle.std.specs.Prelude.{ℕ, ◌<◌, Bool, true, false, List, ◌≡◌}
use Rattle.std.proofs.Common.{arith, sym, ◌∙◌}
use Rattle.voice_records.specs.Record.{record_used}
use Rattle.voices.specs.Voices.{VoiceRows, VoicesSized, PositionInside, SoundInside, record_at, recorded_rows, unused_rows, step_by, voice_step}

-- the rows of one voice of n are there
pub position_inside : {n k : ℕ} {st : VoiceRows} → VoicesSized n st → k < n → PositionInside k st.words st.longs st.floats
position_inside h b = record {
  few = omega (arith, h.few);
  words = omega (arith, h.words);
  longs = omega (arith, h.longs);
  floats = omega (arith, h.floats);
}

pub sound_inside : {n k : ℕ} {st : VoiceRows} → VoicesSized n st → k < n → SoundInside k st.contexts st.history
sound_inside h b = record { few = omega (arith, h.few); contexts = omega (arith, h.contexts); history = omega (arith, h.history) }

-- a step by what the record says
pub step_used : (revision n : ℕ) (d : List ℕ) (k : ℕ) (st : VoiceRows) {p : List ℕ} {t : Bool} {rows : VoiceRows}
    → p ≡ record_at d k → t ≡ record_used p → t ≡ true → rows ≡ recorded_rows revision n p k st → rows ≡ voice_step revision n d k st
unfolding voice_step step_by
step_used revision n d k st {p} ep eu et e =
    let used = sym et ∙ eu in
    e ∙ (λ i. step_by (used i) revision n p k st) ∙ (λ i. step_by (record_used (ep i)) revision n (ep i) k st)

pub step_unused : (revision n : ℕ) (d : List ℕ) (k : ℕ) (st : VoiceRows) {p : List ℕ} {t : Bool}
    → p ≡ record_at d k → t ≡ record_used p → t ≡ false → unused_rows k st ≡ voice_step revision n d k st
unfolding voice_step step_by
step_unused revision n d k st {p} ep eu et =
    let unused = sym et ∙ eu in
    (λ i. step_by (unused i) revision n p k st) ∙ (λ i. step_by (record_used (ep i)) revision n (ep i) k st)
