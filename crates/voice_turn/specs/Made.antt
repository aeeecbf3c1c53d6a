-- What the functions of a voice's turn put together is what their definitions say. Assumes nothing.
use Rattle.std.specs.Prelude.{◌≡◌, Bool, true, false, List, ℕ, ◌+◌, ◌*◌, ◌≤◌, ◌<◌, Float, length}
use Rattle.std.proofs.Common.{ap, subst, ◌∙◌, mul-le-mul_right, arith, length-take-le}
use Rattle.std.proofs.Math.Path.{sym}
use Rattle.std.proofs.Math.ListN.{take}
use Rattle.rows.specs.Rows.{put}
use Rattle.params.specs.declared.params.Params.{Params}
use Rattle.state.specs.State.{State, state_of}
use Rattle.voice.specs.declared.Voice.{Voice}
use Rattle.voice.specs.declared.sound.Sound.{Sound}
use Rattle.voice.specs.declared.queue.Queue.{Queue}
use Rattle.voice.specs.Voice.{queue_of}
use Rattle.voice_rows.specs.VoiceRow.{words_of, longs_of, floats_of}
use Rattle.sound_rows.specs.SoundRow.{contexts_of, history_of}
use Rattle.voice_sends.specs.Sending.{ramped_rows}
use Rattle.plan.specs.Source.{Source}
use Rattle.plan.specs.Rounds.{has_table, plan_of}
use Rattle.sound.specs.Channel.{Ready}
use Rattle.ranges.specs.Ascending.{Ascending}
use Rattle.turn.specs.Render.{Render}
use Rattle.turn.specs.declared.Turn.{Turn}
use Rattle.turn.specs.Turn.{source_of, planned_by, turn_of, told}
use Rattle.turn.specs.Laws.{turn_table, needed_few}
use Rattle.playing.specs.Playing.{Material, material, played_sound}
use Rattle.hearing.specs.Hearing.{sound_in, heard_out}
use Rattle.sending.specs.Sending.{route_out, routed_floats}
use Rattle.voice_turn.specs.Played.{studio, material_of, ramped_out, sends_by, destined, sent_buffers, sent_floats, played}
use Rattle.voice_turn.specs.Asks.{Sounding}

-- ---- the sound of a turn

module _ {t : Turn} {v : Voice} {r : Render} {m : List ℕ} {src out : List Float} (q : Sounding t v r m src out)
    {s : Source} (es : s ≡ source_of v r) {u : Queue} (eu : u ≡ queue_of v) where
  pub material_made : (sound : Sound) → material u s m t.needed sound t.ratio t.fraction r.sample_count
      ≡ material_of r m v sound
  unfolding material_of turn_of planned_by
  material_made sound =
      let e = q.turn in
      λ i. record {
        plan = plan_of (eu i) (es i) (e i).needed;
        source = es i;
        memory = m;
        needed = (e i).needed;
        sound = sound;
        ratio = (e i).ratio;
        fraction = (e i).fraction;
        count = r.sample_count;
      }

  pub heard_made : (sound : Sound) (o : List Float)
      → take (s.channels * r.sample_count) o ≡ heard_out (material u s m t.needed sound t.ratio t.fraction r.sample_count)
      → take (v.channels * r.sample_count) o ≡ heard_out (material_of r m v sound)
  heard_made sound o h = (λ i. take ((sym es i).channels * r.sample_count) o) ∙ h ∙ ap heard_out (material_made sound)

  pub needed_upto : t.needed ≤ 4097
  needed_upto =
      let e = q.turn in
      let n : t.needed ≡ (turn_of v r).needed = λ i. (e i).needed in
      rw n (needed_few v r q.fraction q.samples)

  -- it can be played in a row with room
  pub turn_ready : Ready u s m (take (3 + t.needed) src)
  turn_ready =
      let long : length (take (3 + t.needed) src) ≡ 3 + t.needed = length-take-le (3 + t.needed) src q.row in
      record {
        history = omega (arith, long);
        long = omega (arith, long, needed_upto);
        index = subst (λ (x : Queue). x.index < 4) (sym eu) q.index;
        some = subst (λ (x : Source). 1 ≤ x.channels) (sym es) q.some;
        channels = subst (λ (x : Source). x.channels ≤ 6) (sym es) q.few;
        memory = subst (λ (x : Source). Ascending (length m) 0 x.ranges) (sym es) q.memory;
      }

  pub table_told : t.plan.table ≡ has_table s
  table_told = turn_table v r t q.turn ∙ (λ i. has_table (sym es i))

  pub turn_rows : s.channels * r.sample_count ≤ length out
  turn_rows = omega (arith, q.rows, mul-le-mul_right r.sample_count turn_ready.channels)

-- ---- by whether it has a destination

module _ (p : Params) (v : Voice) (out : List Float) (words : List ℕ) (floats buffers : List Float) {d : Bool} (e : d ≡ destined v) where
  pub buffers_sent : {b : List Float} → d ≡ true → b ≡ (sends_by p v out words floats buffers).buffers → b ≡ sent_buffers (destined v) p v out words floats buffers
  unfolding sent_buffers
  buffers_sent h q = q ∙ (λ i. sent_buffers ((sym h ∙ e) i) p v out words floats buffers)

  pub floats_sent : {f : List Float} → d ≡ true → f ≡ routed_floats p (sends_by p v out words floats buffers) floats → f ≡ sent_floats (destined v) p v out words floats buffers
  unfolding sent_floats
  floats_sent h q = q ∙ (λ i. sent_floats ((sym h ∙ e) i) p v out words floats buffers)

  pub buffers_left : d ≡ false → buffers ≡ sent_buffers (destined v) p v out words floats buffers
  unfolding sent_buffers
  buffers_left h = λ i. sent_buffers ((sym h ∙ e) i) p v out words floats buffers

  pub floats_left : d ≡ false → floats ≡ sent_floats (destined v) p v out words floats buffers
  unfolding sent_floats
  floats_left h = λ i. sent_floats ((sym h ∙ e) i) p v out words floats buffers

-- ---- the turn of a voice that is ready

module _ (p : Params) (r : Render) (m : List ℕ) (k : ℕ) (v : Voice) (st : State) (buffers : List Float)
    (t : Turn) (e : t ≡ told (turn_of v r)) where
  -- what was heard, in the first rows of out
  ramped_made : (out : List Float) (w : Material) → r.sample_count ≡ p.sample_count → take (v.channels * r.sample_count) out ≡ heard_out w
      → route_out t.from t.to p.sample_count v.channels out ≡ ramped_out p r v w
  unfolding route_out ramped_out
  ramped_made out w n h =
      let o = (λ i. take (v.channels * sym n i) out) ∙ h in
      λ i. ramped_rows (e i).from (e i).to p.sample_count v.channels (o i)

  pub played_made : {w l c : List ℕ} {f g h b : List Float} (out : List Float) → r.sample_count ≡ p.sample_count
      → w ≡ put st.words (10 + k * 58) (words_of t.voice) → l ≡ put st.longs (1 + k * 14) (longs_of t.voice) → f ≡ put st.floats (k * 4) (floats_of t.voice)
      → c ≡ put st.contexts (k * 3) (contexts_of (played_sound (material_of r m v (sound_in k st.contexts st.history))))
      → h ≡ put st.history (k * 18) (history_of (played_sound (material_of r m v (sound_in k st.contexts st.history))))
      → take (v.channels * r.sample_count) out ≡ heard_out (material_of r m v (sound_in k st.contexts st.history))
      → b ≡ sent_buffers (destined v) p v (route_out t.from t.to p.sample_count v.channels out) w f buffers
      → g ≡ sent_floats (destined v) p v (route_out t.from t.to p.sample_count v.channels out) w f buffers
      → (n : ℕ) → studio (state_of w l g c h) b (n + t.plan.rounds) ≡ played p r m k v (studio st buffers n)
  unfolding played
  played_made out en ew el ef ec eh eo eb eg n =
      let o = ramped_made out (material_of r m v (sound_in k st.contexts st.history)) en eo in
      let w' = ew ∙ (λ i. put st.words (10 + k * 58) (words_of (e i).voice)) in
      let l' = el ∙ (λ i. put st.longs (1 + k * 14) (longs_of (e i).voice)) in
      let f' = ef ∙ (λ i. put st.floats (k * 4) (floats_of (e i).voice)) in
      let b' = eb ∙ (λ i. sent_buffers (destined v) p v (o i) (w' i) (f' i) buffers) in
      let g' = eg ∙ (λ i. sent_floats (destined v) p v (o i) (w' i) (f' i) buffers) in
      λ i. studio (state_of (w' i) (l' i) (g' i) (ec i) (eh i)) (b' i) (n + (e i).plan.rounds)
