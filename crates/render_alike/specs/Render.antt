-- Two renders whose states differ at most in sound: they still do, and take the same rounds; with the same reads of the voices that are heard, the same frames. Assumes nothing.
use Rattle.std.specs.Prelude.{◌≡◌, refl, List, Float, length, take, drop, get_or, set, replicate}
use Rattle.std.proofs.Common.{ap, ◌∙◌, le_refl, arith, take_at}
use Rattle.std.proofs.Math.Path.{sym, subst}
use Prim.Native.Nat.{ℕ, zero, suc, ◌+◌, ◌*◌, ◌^◌, ◌%◌, ◌≤◌, ◌<◌}
use Rattle.std.proofs.Math.Dec.{T}
use Rattle.floats.specs.Defs.{zero32}
use Rattle.rows.specs.Folds.{up_to}
use Rattle.params.specs.declared.params.Params.{Params}
use Rattle.params.specs.Params.{params_of}
use Rattle.state.specs.State.{State, params_in}
use Rattle.voice.specs.declared.Voice.{Voice}
use Rattle.ranges.specs.Ranges.{Range}
use Rattle.ranges.specs.Ascending.{Ascending}
use Rattle.turn.specs.Render.{Render}
use Rattle.whole.specs.Whole.{Whole}
use Rattle.frames.specs.Laws.{length_frames_of}
use Rattle.desk_render.specs.DeskRender.{mixed_by, frames_by}
use Rattle.state_voices.specs.StateVoices.{voice_in}
use Rattle.voice_turn.specs.Played.{Studio, studio}
use Rattle.render_turns.specs.Turns.{voices_rendered, Playing}
use Rattle.render.specs.Render.{elapsed, render_of, Rendered, frames_after, rendered_on, rendered_by}
use Rattle.render_turns.proofs.After.{playing_after}
use Rattle.render.specs.Laws.{elapsed_playing, voice_same}
use Rattle.render.specs.FromWhole.{whole_playing}
use Rattle.alike.specs.Reads.{voice_reads}
use Rattle.alike.specs.Alike.{Alike, SameReads, live, Named}
use Rattle.render_alike.specs.Voices.{voice_left}
use Rattle.render_alike.specs.Turn.{StudiosAlike, turn_alike}

-- ---- the voices

module _ {p : Params} {P : ℕ → Type 0} {H : Type 0} {r : Render} {m m' : List ℕ} {x y : Studio} (e : StudiosAlike p P H x y)
    (g : Playing p r m 0 x.state) (g' : Playing p r m' 0 y.state)
    (reads : (k : ℕ) → k < p.voices → P k → SameReads r.ranges m m' (voice_reads r (voice_in k x.state)))
    (heard : H → Named p P (λ k. voice_in k x.state)) where
  voices_alike : (k : ℕ) → k ≤ p.voices → StudiosAlike p P H (voices_rendered p r m k x) (voices_rendered p r m' k y)
  unfolding voices_rendered up_to
  voices_alike zero l = e
  voices_alike (suc k) l =
      let h = playing_after p r m x g k (omega arith) in
      let h' = playing_after p r m' y g' k (omega arith) in
      let same = sym (voice_left p r m x g k k (le_refl k) l) in
      turn_alike (voices_alike k (omega arith)) h.desk h'.desk l (h.voices k (le_refl k) l)
      (λ q. subst (λ (v : Voice). SameReads r.ranges m m' (voice_reads r v)) same (reads k l q))
      (λ n t. heard n k l (subst (λ (v : Voice). T (live v)) (sym same) t))

-- ---- the frames

-- the first 2 n of the slice are those of the desk
pub frames_first : (p : Params) (st : State) (buffers frames : List Float)
    → take (2 * p.sample_count) (frames_after p st buffers frames) ≡ frames_by p st.words st.floats (mixed_by p st.words st.floats buffers)
unfolding frames_by
frames_first p st buffers frames = take_at _ (drop (2 * p.sample_count) frames) (2 * p.sample_count) (length_frames_of _ p.sample_count 0 _ _ p.sinks)

-- ---- a render

pub record RendersAlike (p : Params) (P : ℕ → Type 0) (voice : ℕ → Voice) (x y : Rendered) : Type 0 where
  pub states : Alike p P x.state y.state
  pub rounds : x.rounds ≡ y.rounds
  -- where each voice that can be heard is one of P
  pub heard : Named p P voice → take (2 * p.sample_count) x.frames ≡ take (2 * p.sample_count) y.frames

elapsed_alike : {p : Params} {P : ℕ → Type 0} {a b : State} → Alike p P a b → Alike p P (elapsed a) (elapsed b)
unfolding elapsed
elapsed_alike e = record {
  words = e.words;
  longs = ap (λ (l : List ℕ). set l 0 ((get_or l 0 0 + 1) % 2 ^ 64)) e.longs;
  floats = e.floats;
  contexts = e.contexts;
  history = e.history;
}

module _ {p : Params} {P : ℕ → Type 0} {r : Render} {m m' : List ℕ} {st st' : State} (e : Alike p P st st') (g : Playing p r m 0 st) (g' : Playing p r m' 0 st')
    (reads : (k : ℕ) → k < p.voices → P k → SameReads r.ranges m m' (voice_reads r (voice_in k st)))
    (buffers frames frames' : List Float) where
  -- all voices in turn; the count of renders is none of theirs
  played_alike : StudiosAlike p P (Named p P (λ k. voice_in k st)) (voices_rendered p r m p.voices (studio (elapsed st) buffers 0))
      (voices_rendered p r m' p.voices (studio (elapsed st') buffers 0))
  played_alike =
      voices_alike (record { states = elapsed_alike e; rounds = refl; buffers = λ _. refl }) (elapsed_playing g) (elapsed_playing g')
      (λ k l q. subst (λ (v : Voice). SameReads r.ranges m m' (voice_reads r v)) (sym (voice_same g k)) (reads k l q))
      (λ n k l t. n k l (subst (λ (v : Voice). T (live v)) (voice_same g k) t)) p.voices (le_refl _)

  on_alike : RendersAlike p P (λ k. voice_in k st) (rendered_on p r m st buffers frames) (rendered_on p r m' st' buffers frames')
  unfolding rendered_on
  on_alike =
      let x = voices_rendered p r m p.voices (studio (elapsed st) buffers 0) in
      let y = voices_rendered p r m' p.voices (studio (elapsed st') buffers 0) in
      let s = played_alike.states in
      record {
        states = s;
        rounds = played_alike.rounds;
        heard = λ n.
            let b = played_alike.buffers n in
            frames_first p x.state x.buffers frames
            ∙ (λ i. frames_by p (s.words i) (s.floats i) (mixed_by p (s.words i) (s.floats i) (b i)))
            ∙ sym (frames_first p y.state y.buffers frames');
      }

-- of memories in the same ranges, whose parts lie inside both
pub rendered_alike : (P : ℕ → Type 0) (rs : List Range) (m m' : List ℕ) → Ascending (length m) 0 rs → Ascending (length m') 0 rs
    → (st st' : State) → Whole st → Whole st' → Alike (params_in st) P st st'
    → ((k : ℕ) → k < (params_in st).voices → P k → SameReads rs m m' (voice_reads (render_of (params_in st) rs) (voice_in k st)))
    → (frames frames' : List Float)
    → (let p = params_in st in RendersAlike p P (λ k. voice_in k st) (rendered_by p rs m st frames) (rendered_by p rs m' st' frames'))
unfolding rendered_by render_of
rendered_alike P rs m m' laid laid' st st' w w' e reads frames frames' =
    let p = params_in st in
    let silence = replicate (p.mix_buffers * p.sample_count) zero32 in
    -- the second state can be rendered with the parameters of the first
    let g' = subst (λ (words : List ℕ). Playing (params_of words) (render_of (params_of words) rs) m' 0 st') (sym e.words)
    (whole_playing st' w' rs m' laid') in
    on_alike e (whole_playing st w rs m laid) g' reads silence frames frames'
