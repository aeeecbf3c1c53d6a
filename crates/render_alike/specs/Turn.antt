-- The turn of voice k in two renders whose states differ at most in sound: they still do, and its fetch takes the same rounds. Assumes nothing.
use Rattle.std.specs.Prelude.{◌≡◌, refl, Bool, List, ℕ, ◌+◌, ◌<◌, T, Float}
use Rattle.std.proofs.Math.Path.{ap, subst}
use Rattle.std.proofs.Common.{◌∙◌}
use Rattle.std.proofs.Math.Bool.{true, false}
use Rattle.params.specs.declared.params.Params.{Params}
use Rattle.state.specs.State.{State}
use Rattle.voice.specs.declared.Voice.{Voice}
use Rattle.voice.specs.declared.ready.Prepared.{Prepared}
use Rattle.voice_sends.specs.Sending.{ramped_rows}
use Rattle.sound_rows.specs.SoundRow.{sound_of}
use Rattle.turn.specs.Render.{Render}
use Rattle.turn.specs.Turn.{turn_of}
use Rattle.hearing.specs.Hearing.{sound_in}
use Rattle.state_voices.specs.StateVoices.{voice_in, begun, Playing, Playable}
use Rattle.state_voices.specs.Rows.{sound_inside}
use Rattle.state_voices.specs.Begins.{begun_facts}
use Rattle.voice_turn.specs.Played.{Studio, turn_material, fetched, ramped_out, destined, sent_buffers, sent_floats, played}
use Rattle.voice_turn.specs.Asks.{Renderable, renderable_same}
use Rattle.voice_turn.specs.Laws.{kept_long}
use Rattle.voice_render.specs.RenderVoice.{with_state, ready_by, render_voice}
use Rattle.voice_render.specs.Made.{beginning_of}
use Rattle.alike.specs.Reads.{ready_reads, voice_reads}
use Rattle.alike.specs.Alike.{Alike, SameReads, live}
use Rattle.render_alike.specs.Sound.{played_turn_same, heard_turn_same}
use Rattle.render_alike.specs.Gains.{sent_floats_same}
use Rattle.render_alike.specs.Live.{ready_live}
use Rattle.render_alike.specs.Stores.{SoundRows, voice_alike, put_voice_alike, with_floats_alike, put_sound_alike}
use Rattle.render_alike.specs.Begun.{prepared_alike, begun_alike}

-- two renders on their way: states that differ at most in sound, the same rounds, and the same mix buffers where H holds
pub record StudiosAlike (p : Params) (P : ℕ → Type 0) (H : Type 0) (x y : Studio) : Type 0 where
  pub states : Alike p P x.state y.state
  pub rounds : x.rounds ≡ y.rounds
  pub buffers : H → x.buffers ≡ y.buffers

rows_there : {p : Params} {r : Render} {m : List ℕ} {k : ℕ} {st : State} → Renderable p r m st → k < p.voices → SoundRows k st
rows_there c inside = sound_inside c.allowed c.sized inside

-- ---- a voice that is ready

-- the mix buffers after the sends, where what is sent is the same if there is a destination
sent_buffers_same : (d : Bool) (p : Params) (v : Voice) {out out' : List Float} {words words' : List ℕ} {floats floats' buffers buffers' : List Float}
    → (T d → out ≡ out') → words ≡ words' → floats ≡ floats' → buffers ≡ buffers' → sent_buffers d p v out words floats buffers ≡ sent_buffers d p v out' words' floats' buffers'
unfolding sent_buffers
sent_buffers_same true p v o w f b = let o' = o tt in λ i. sent_buffers true p v (o' i) (w i) (f i) (b i)
sent_buffers_same false p v o w f b = b

module _ {p : Params} {P : ℕ → Type 0} {H : Type 0} {r : Render} {m m' : List ℕ} {k : ℕ} {x y : Studio} (e : StudiosAlike p P H x y)
    (c : Renderable p r m x.state) (c' : Renderable p r m' y.state) (inside : k < p.voices)
    (v : Voice) (q : Playing p.voices v) (reads : P k → SameReads r.ranges m m' (ready_reads true r v)) where
  sound_same : P k → sound_in k x.state.contexts x.state.history ≡ sound_in k y.state.contexts y.state.history
  unfolding sound_in
  sound_same h = λ i. sound_of (e.states.contexts k inside h i) (e.states.history k inside h i)

  fetched_alike : Alike p P (fetched r m k v x.state) (fetched r m' k v y.state)
  fetched_alike =
      put_sound_alike (put_voice_alike e.states k (turn_of v r).voice) (rows_there c inside) (rows_there c' inside) _ _
      (kept_long r m c.sized inside q c.memory) (kept_long r m' c'.sized inside q c'.memory)
      (λ h. played_turn_same r m m' v _ _ (sound_same h) (reads h))

  out_same : P k → ramped_out p r v (turn_material r m k v x.state) ≡ ramped_out p r v (turn_material r m' k v y.state)
  unfolding ramped_out
  out_same h =
      ap (ramped_rows (turn_of v r).from (turn_of v r).to p.sample_count v.channels) (heard_turn_same r m m' v _ _ (sound_same h) (reads h))

  played_alike : (H → T (destined v) → P k) → StudiosAlike p P H (played p r m k v x) (played p r m' k v y)
  unfolding played
  played_alike heard =
      let f = fetched_alike in
      let u = fetched r m k v x.state in
      let out' = ramped_out p r v (turn_material r m' k v y.state) in
      record {
        states = with_floats_alike f
            (sent_floats_same (destined v) p v u.words u.floats _ out' x.buffers y.buffers
            ∙ (λ i. sent_floats (destined v) p v out' (f.words i) (f.floats i) y.buffers));
        rounds = ap (λ (n : ℕ). n + (turn_of v r).plan.rounds) e.rounds;
        buffers = λ h. sent_buffers_same (destined v) p v (λ d. out_same (heard h d)) f.words f.floats (e.buffers h);
      }

-- ---- the whole turn

module _ {p : Params} {P : ℕ → Type 0} {H : Type 0} {r : Render} {m m' : List ℕ} {k : ℕ} {x y : Studio} (e : StudiosAlike p P H x y)
    (c : Renderable p r m x.state) (c' : Renderable p r m' y.state) (inside : k < p.voices) (q : Playable p k x.state)
    (reads : P k → SameReads r.ranges m m' (voice_reads r (voice_in k x.state)))
    (heard : H → T (live (voice_in k x.state)) → P k) where
  abbrev b : Prepared
  b = (begun p k x.state).prepared

  abbrev x₁ : Studio
  x₁ = with_state (begun p k x.state).state x

  abbrev y₁ : Studio
  y₁ = with_state (begun p k y.state).state y

  begun_studios : StudiosAlike p P H x₁ y₁
  begun_studios = record { states = begun_alike k e.states (rows_there c inside) (rows_there c' inside); rounds = e.rounds; buffers = e.buffers }

  by_ready : (t : Bool) → b.ready ≡ t → StudiosAlike p P H (ready_by t p r m k b.voice x₁) (ready_by t p r m' k b.voice y₁)
  unfolding ready_by voice_reads begun
  by_ready true t =
      let g = begun_facts (beginning_of c inside q) in
      let g' = begun_facts (beginning_of c' inside (subst (Playing p.voices) (voice_alike e.states k) q)) in
      played_alike begun_studios (renderable_same c g.only) (renderable_same c' g'.only) inside b.voice g.playing
      (λ h. subst (λ (t : Bool). SameReads r.ranges m m' (ready_reads t r b.voice)) t (reads h))
      (λ h d. heard h (ready_live (voice_in k x.state) t d))
  by_ready false t = begun_studios

  pub turn_alike : StudiosAlike p P H (render_voice p r m k x) (render_voice p r m' k y)
  unfolding render_voice
  turn_alike =
      subst (λ (z : Prepared). StudiosAlike p P H (render_voice p r m k x) (ready_by z.ready p r m' k z.voice y₁))
      (prepared_alike k e.states) (by_ready b.ready refl)
