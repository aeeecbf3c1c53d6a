-- The words, longs and floats after an update follow from those before it and the input, and from no sound. Assumes nothing.
use Rattle.std.specs.Prelude.{◌≡◌, Bool, List, [], ◌∷◌, Float, set}
use Rattle.std.proofs.Math.Bool.{true, false}
use Prim.Native.Nat.{ℕ, zero, suc, ◌*◌}
use Rattle.rows.specs.Rows.{part, put}
use Rattle.rows.specs.Folds.{up_to}
use Rattle.params.specs.declared.params.Params.{Params}
use Rattle.params.specs.Sections.{sections_of, voices_section, resources_section}
use Rattle.state.specs.State.{State, resource_floats}
use Rattle.desk_updates.specs.DeskUpdate.{resources_at}
use Rattle.voice_rows.specs.VoiceRow.{words_of, longs_of, floats_of}
use Rattle.voice_records.specs.Record.{record_used}
use Rattle.voices.specs.Voices.{VoiceRows, record_at, recorded_at, recorded_rows, unused_rows, step_by, voice_step, voices_of}
use Rattle.updates.specs.Update.{desk, with_resources, voice_rows_in, with_voices, after_voices, after_desk, changed, updated}
use Rattle.update_alike.specs.Found.{rows_in}

-- all of a state but its sound
pub record Position : Type 0 where
  pub words : List ℕ
  pub longs : List ℕ
  pub floats : List Float

abbrev pub position : List ℕ → List ℕ → List Float → Position
position words longs floats = record { words = words; longs = longs; floats = floats }

abbrev pub position_of : State → Position
position_of st = position st.words st.longs st.floats

abbrev rows_position : VoiceRows → Position
rows_position st = position st.words st.longs st.floats

-- ---- the voices' rows

module _ (revision n : ℕ) where
  step_by_lem : (used : Bool) (p : List ℕ) (k : ℕ) (a b : VoiceRows) → rows_position a ≡ rows_position b
      → rows_position (step_by used revision n p k a) ≡ rows_position (step_by used revision n p k b)
  unfolding step_by recorded_rows unused_rows
  step_by_lem true p k a b e = λ i.
      let v = recorded_at revision n p k (e i).words (e i).longs (e i).floats in
      position (put (e i).words (k * 58) (words_of v)) (put (e i).longs (k * 14) (longs_of v)) (put (e i).floats (k * 4) (floats_of v))
  step_by_lem false p k a b e = λ i. position (set (e i).words (k * 58) 0) (e i).longs (e i).floats

  steps_same : (d : List ℕ) (k : ℕ) (a b : VoiceRows) → rows_position a ≡ rows_position b
      → rows_position (up_to (voice_step revision n d) k a) ≡ rows_position (up_to (voice_step revision n d) k b)
  unfolding up_to voice_step
  steps_same d zero a b e = e
  steps_same d (suc k) a b e = step_by_lem (record_used (record_at d k)) (record_at d k) k _ _ (steps_same d k a b e)

  voices_same : (d : List ℕ) (a b : VoiceRows) → rows_position a ≡ rows_position b → rows_position (voices_of revision d n a) ≡ rows_position (voices_of revision d n b)
  unfolding voices_of
  voices_same d a b e = steps_same d n a b e

-- ---- the state

module _ (p : Params) (a b : State) (e : position_of a ≡ position_of b) where
  resources_same : (d : List ℕ) → position_of (with_resources p d a) ≡ position_of (with_resources p d b)
  unfolding with_resources
  resources_same d = λ i. position (e i).words (e i).longs (put (e i).floats (resource_floats p) (resources_at d p.voices (resource_floats p) (e i).floats))

  with_voices_same : (d : List ℕ) → position_of (with_voices p d a) ≡ position_of (with_voices p d b)
  unfolding with_voices voice_rows_in
  with_voices_same d =
      let n = p.voices in
      let r = voices_same _ n d (rows_in n a) (rows_in n b) (λ i. position (part (n * 58) 10 (e i).words) (part (n * 14) 1 (e i).longs) (part (n * 4) 0 (e i).floats)) in
      λ i. position (put (e i).words 10 (r i).words) (put (e i).longs 1 (r i).longs) (put (e i).floats 0 (r i).floats)

pub changed_same : (p : Params) (input : List ℕ) (a b : State) → position_of a ≡ position_of b
    → position_of (changed p input a) ≡ position_of (changed p input b)
unfolding changed after_voices
changed_same p input a b e =
    let v = with_voices_same p _ _ (resources_same p a b e (resources_section input)) (voices_section input) in
    λ i.
    let k = after_desk p (sections_of input) input (desk (v i).words (v i).floats) in
    position k.words (v i).longs k.floats

pub updated_same : (p : Params) (input : List ℕ) (a b : State) → position_of a ≡ position_of b
    → position_of (updated p input a) ≡ position_of (updated p input b)
unfolding updated
updated_same p [] a b e = e
updated_same p (x ∷ xs) a b e = changed_same p (x ∷ xs) a b e
