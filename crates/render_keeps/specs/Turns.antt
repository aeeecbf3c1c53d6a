-- What holds after each voice of a render: the marks are in range, every voice can be played, and all other words stay. Assumes nothing.
use Rattle.std.specs.Prelude.{◌≡◌, refl, Bool, List, ℕ, zero, suc, ◌+◌, ◌*◌, ◌≤◌, ◌<◌, Float}
use Rattle.std.proofs.Common.{sym, ◌∙◌, arith}
use Rattle.std.proofs.Math.Path.{subst}
use Rattle.std.proofs.Math.Bool.{true, false}
use Rattle.rows.specs.Rows.{part, put}
use Rattle.rows.specs.Folds.{up_to}
use Rattle.params.specs.declared.params.Params.{Params}
use Rattle.state.specs.State.{State, Sized, mix_words}
use Rattle.voice.specs.declared.Voice.{Voice}
use Rattle.voice.specs.declared.ready.Prepared.{Prepared}
use Rattle.voice_rows.specs.VoiceRow.{words_of}
use Rattle.turn.specs.Render.{Render}
use Rattle.turn.specs.Turn.{takes_part, begin_of, turn_of}
use Rattle.state_voices.specs.StateVoices.{voice_in, put_voice, taken, reset_by, stored_by, begun_state, begun, Playable}
use Rattle.state_voices.specs.Keeps.{only_taken}
use Rattle.state_voices.specs.Begins.{begun_facts}
use Rattle.voice_turn.specs.Played.{Studio, studio, played}
use Rattle.voice_turn.specs.Asks.{Renderable}
use Rattle.voice_render.specs.RenderVoice.{ready_by, render_voice}
use Rattle.voice_render.specs.Made.{beginning_of}
use Rattle.voice_render.specs.Laws.{render_step_lem, render_renderable, render_playable, render_others}
use Rattle.render_turns.specs.Turns.{voices_rendered}
use Rattle.render_keeps.specs.Marks.{Marked, one_and_others, marked_put}

-- ---- the marks after the turn of voice k

-- a sound that is reset is no word
reset_words : (b : Bool) (k : ℕ) (st : State) → (reset_by b k st).words ≡ st.words
unfolding reset_by
reset_words true k st = refl
reset_words false k st = refl

module _ {p : Params} {k : ℕ} (h : k < p.voices) where
  module _ (st : State) (z : Sized p st) (marked : Marked p.voices st.words) where
    put_marked : (v : Voice) → Marked p.voices (put st.words (10 + k * 58) (words_of v))
    put_marked = marked_put st.words (omega (arith, z.words)) marked h

    stored_marked : (t : Bool) (b : Prepared) → Marked p.voices (stored_by t k b st).words
    unfolding stored_by
    stored_marked true b = marked
    stored_marked false b = subst (Marked p.voices) (sym (reset_words b.reset k (put_voice k b.voice st))) (put_marked b.voice)

    ready_marked : (t : Bool) (r : Render) (m : List ℕ) (v : Voice) (buffers : List Float) (n : ℕ)
        → Marked p.voices (ready_by t p r m k v (studio st buffers n)).state.words
    unfolding ready_by played
    ready_marked true r m v buffers n = put_marked (turn_of v r).voice
    ready_marked false r m v buffers n = marked

  -- the resources that a fresh voice takes over are floats
  begun_marked : (st : State) → Sized p (taken p (voice_in k st) st) → Marked p.voices st.words
      → (d : Bool) → Marked p.voices (begun_state d p k (voice_in k st) st).words
  unfolding begun_state
  begun_marked st z marked true = let v = voice_in k st in stored_marked (taken p v st) z marked (begin_of v).ready (begin_of v)
  begun_marked st z marked false = marked

  render_marked : {r : Render} {m : List ℕ} {st : State} → Renderable p r m st → Playable p k st → Marked p.voices st.words
      → (buffers : List Float) (n : ℕ) → Marked p.voices (render_voice p r m k (studio st buffers n)).state.words
  unfolding render_voice begun
  render_marked {r} {m} {st} c y marked buffers n =
      let g = begun_facts (beginning_of c h y) in
      let z = (only_taken c.sized y {k = k}).sized in
      ready_marked (begun p k st).state g.only.sized (begun_marked st z marked (takes_part (voice_in k st))) (begun p k st).prepared.ready
      r m (begun p k st).prepared.voice buffers n

-- ---- after the turns so far, from a to b

pub record Kept (p : Params) (r : Render) (m : List ℕ) (a b : State) : Type 0 where
  pub desk : Renderable p r m b
  pub front : part 10 0 b.words ≡ part 10 0 a.words
  pub behind : (w at : ℕ) → mix_words p ≤ at → part w at b.words ≡ part w at a.words
  pub voices : (j : ℕ) → j < p.voices → Playable p j b
  pub marks : Marked p.voices b.words

kept_more : {p : Params} {r : Render} {m : List ℕ} {a : State} (x : Studio) → Kept p r m a x.state → {k : ℕ} → k < p.voices
    → Kept p r m a (render_voice p r m k x).state
kept_more {p} {r} {m} x q {k} h =
    let y = q.voices k h in
    let only = (render_step_lem q.desk h y x.buffers x.rounds).only in
    record {
      desk = render_renderable q.desk h y x.buffers x.rounds;
      front = only.front ∙ q.front;
      behind = λ w at l. only.behind w at l ∙ q.behind w at l;
      voices = λ j l.
          one_and_others (λ i. Playable p i (render_voice p r m k x).state) k (render_playable q.desk h y x.buffers x.rounds) j
          (λ d. render_others q.desk h y x.buffers x.rounds j l d (q.voices j l));
      marks = render_marked h q.desk y q.marks x.buffers x.rounds;
    }

pub voices_kept : {p : Params} {r : Render} {m : List ℕ} {a : State} (x : Studio) → Kept p r m a x.state → (k : ℕ) → k ≤ p.voices
    → Kept p r m a (voices_rendered p r m k x).state
unfolding voices_rendered up_to
voices_kept x q zero h = q
voices_kept {p} {r} {m} x q (suc k) h = kept_more (voices_rendered p r m k x) (voices_kept x q k (omega arith)) h
