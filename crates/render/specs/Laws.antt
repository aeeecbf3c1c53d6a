-- Of the count of renders, of silence, and of what the steps of a render leave. Assumes nothing.
use Rattle.std.specs.Prelude.{◌≡◌, ℕ, zero, suc, ◌+◌, ◌*◌, ◌%◌, ◌^◌, ◌<◌, ◌≤◌, List, [], ◌∷◌, ◌++◌, length, take, replicate, slice_index, slice_set, refl, Float}
use Rattle.std.proofs.Math.Path.{ap, subst}
use Rattle.std.proofs.Common.{sym, ◌∙◌, arith, length-append}
use Rattle.std.specs.Float.{nan}
use Rattle.std.proofs.Math.ListN.{length-set, get_or-append}
use Rattle.std.proofs.lemmas.List.{length-replicate, get_or-replicate}
use Rattle.floats.specs.Defs.{zero32}
use Rattle.rows.specs.Rows.{part, part_put_after, put_one}
use Rattle.params.specs.declared.params.Params.{Params}
use Rattle.state.specs.State.{State, state_of}
use Rattle.turn.specs.Render.{Render}
use Rattle.sink.specs.Sink.{Silent}
use Rattle.voice_rows.specs.VoiceRow.{voice_of}
use Rattle.state_voices.specs.StateVoices.{voice_on, voice_in}
use Rattle.state_voices.specs.StateVoices as Voices
use Rattle.voice_turn.specs.Played.{Studio, studio}
use Rattle.desk_render.specs.DeskRender.{Mixable}
use Rattle.render_turns.specs.Turns.{voices_rendered, Playing}
use Rattle.render_turns.proofs.After.{playing_after}
use Rattle.render.specs.Render.{elapsed, Rendered, rendered, rendered_on, frames_after}

-- the desk can be mixed down
pub mixable : {p : Params} {r : Render} {m : List ℕ} {k : ℕ} {st : State} → Playing p r m k st → Mixable p st.words st.floats
mixable h = record {
  allowed = h.desk.allowed;
  words_long = h.desk.sized.words;
  floats_long = h.desk.sized.floats;
  mixes = h.desk.mixes;
  lists = h.desk.lists;
}

-- ---- the count of renders is no voice's

module _ {p : Params} {r : Render} {m : List ℕ} {st : State} (h : Playing p r m 0 st) where
  longs_same : (j : ℕ) → part 14 (1 + j * 14) (elapsed st).longs ≡ part 14 (1 + j * 14) st.longs
  unfolding elapsed
  longs_same j =
      let v = (slice_index st.longs 0 + 1) % 2 ^ 64 in
      let some : 0 < length st.longs = omega (arith, h.desk.sized.longs) in
      ap (part 14 (1 + j * 14)) (put_one st.longs 0 v some)
      ∙ part_put_after st.longs 0 (v ∷ []) (omega arith) 14 (1 + j * 14) (omega arith)

  pub voice_same : (j : ℕ) → voice_in j (elapsed st) ≡ voice_in j st
  unfolding voice_on elapsed
  voice_same j = λ i. voice_of (part 58 (10 + j * 58) st.words) (longs_same j i) (part 4 (j * 4) st.floats)

  pub elapsed_playing : Playing p r m 0 (elapsed st)
  unfolding elapsed
  elapsed_playing = record {
    desk = record {
      allowed = h.desk.allowed;
      sized = record {
        words = h.desk.sized.words;
        longs = length-set st.longs 0 _ ∙ h.desk.sized.longs;
        floats = h.desk.sized.floats;
        contexts = h.desk.sized.contexts;
        history = h.desk.sized.history;
      };
      mixes = h.desk.mixes;
      lists = h.desk.lists;
      samples = h.desk.samples;
      memory = h.desk.memory;
    };
    voices = λ j l b. subst (Voices.Playing p.voices) (sym (voice_same j)) (h.voices j l b);
  }

  -- the same, of longs that are found to be so
  pub counted_playing : {l : List ℕ} → l ≡ slice_set st.longs 0 ((slice_index st.longs 0 + 1) % 2 ^ 64)
      → Playing p r m 0 (state_of st.words l st.floats st.contexts st.history)
  unfolding elapsed
  counted_playing e = subst (λ (l : List ℕ). Playing p r m 0 (state_of st.words l st.floats st.contexts st.history)) (sym e) elapsed_playing

-- what all voices leave can be mixed down
pub after_mixable : {p : Params} {r : Render} {m : List ℕ} (x : Studio) → Playing p r m 0 x.state → {u : State} {b : List Float} {rounds : ℕ}
    → studio u b rounds ≡ voices_rendered p r m p.voices x → Mixable p u.words u.floats
after_mixable {p = p} {r = r} {m = m} x h e =
    mixable (subst (λ (y : Studio). Playing p r m p.voices y.state) (sym e) (playing_after p r m x h p.voices (omega arith)))

-- ---- silence

pub take_replicate : (k n : ℕ) (z : Float) → k ≤ n → take k (replicate n z) ≡ replicate k z
take_replicate zero n z h = refl
take_replicate (suc k) zero z h = absurd (omega arith)
take_replicate (suc k) (suc n) z h = ap (λ (xs : List Float). z ∷ xs) (take_replicate k n z (omega arith))

-- a row that begins with n zeros
pub silent : (n : ℕ) (rest : List Float) {row : List Float} → row ≡ replicate n zero32 ++ rest → Silent n row
silent n rest e = record {
  size = rw (e, length-append, length-replicate) (omega arith);
  zeros = λ i l. rw e (get_or-append (replicate n zero32) rest nan i (rw length-replicate l) ∙ get_or-replicate n i zero32 nan l);
}

-- ---- what the steps leave, together

pub render_done_lem : (p : Params) (r : Render) (m : List ℕ) (st : State) (buffers frames : List Float) {l : List ℕ} {u : State} {b f : List Float} {rounds : ℕ}
    → l ≡ slice_set st.longs 0 ((slice_index st.longs 0 + 1) % 2 ^ 64)
    → studio u b rounds ≡ voices_rendered p r m p.voices (studio (state_of st.words l st.floats st.contexts st.history) buffers 0)
    → f ≡ frames_after p u b frames
    → rendered u rounds f ≡ rendered_on p r m st buffers frames
unfolding rendered_on elapsed
render_done_lem p r m st buffers frames {u = u} {b = b} {rounds = rounds} el ex ef =
    let x = ex ∙ ap (λ (l : List ℕ). voices_rendered p r m p.voices (studio (state_of st.words l st.floats st.contexts st.history) buffers 0)) el in
    ap (rendered u rounds) ef ∙ (λ i. rendered (x i).state (x i).rounds (frames_after p (x i).state (x i).buffers frames))
