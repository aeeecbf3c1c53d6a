-- A voice's turn leaves it one that can take the next: its arrays keep their lengths, and what a turn asks of it holds again. Assumes nothing.
use Rattle.std.specs.Prelude.{◌≡◌, refl, Bool, false, List, [], ◌∷◌, ℕ, zero, suc, ◌+◌, ◌*◌, ◌≤◌, ◌<◌, length}
use Rattle.std.proofs.Common.{ap, sym, subst, ◌∙◌, append-nil, arith, length-set}
use Rattle.std.proofs.lemmas.List.{length-map}
use Rattle.rows.specs.Rows.{part_put_same}
use Rattle.params.specs.declared.params.Params.{Params}
use Rattle.state.specs.State.{State, Sized}
use Rattle.voice.specs.declared.play.Play.{Play}
use Rattle.voice.specs.declared.play.Play.TheVariants.{Started, Stopped, Stopping, Paused}
use Rattle.voice.specs.declared.wave.WaveBuffer.{WaveBuffer}
use Rattle.voice.specs.declared.queue.Queue.{Queue}
use Rattle.voice.specs.declared.Voice.{Voice}
use Rattle.voice.specs.Voice.{queue_of}
use Rattle.voice.specs.Queue.{next_slot}
use Rattle.voice.specs.Prepare.{settled, flush_slot, flushed, joined, promoted, stopped, prepared_by, prepare_of}
use Rattle.voice_rows.specs.VoiceRow.{voice_of, words_of, longs_of, floats_of, length_words, length_longs, length_floats}
use Rattle.row_trips.specs.Trip.{Shaped, voice_again}
use Rattle.plan.specs.Fits.{plan_made}
use Rattle.turn.specs.Render.{Render}
use Rattle.turn.specs.Turn.{freshened, begin_of, source_of, needed_by, planned_by, finished, turn_of}
use Rattle.turn.specs.Begins.{freshened_same, begin_same, begin_channels, begin_base, begin_index, begin_fraction}
use Rattle.turn.specs.Laws.{fraction_unit, index_kept}
use Rattle.voice_sends.specs.Sending.{Ids}
use Rattle.state_voices.specs.StateVoices.{voice_on, voice_in, put_voice, Playing}

-- ---- the arrays of a queue

pub record Four (q : Queue) : Type 0 where
  pub buffers : length q.buffers ≡ 4
  pub valid : length q.valid ≡ 4

four_flushed : (n slot : ℕ) (q : Queue) → Four q → Four (flushed n slot q)
unfolding flushed flush_slot
four_flushed zero slot q h = h
four_flushed (suc n) slot q h =
    four_flushed n (next_slot slot) (flush_slot q slot)
    (record { buffers = length-set q.buffers slot _ ∙ h.buffers; valid = length-set q.valid slot false ∙ h.valid })

length_joined : (bs : List WaveBuffer) (vs : List Bool) → length bs ≡ length vs → length (joined bs vs) ≡ length vs
length_joined [] vs h = refl
length_joined (b ∷ bs) [] h = refl
length_joined (b ∷ bs) (v ∷ vs) h = ap suc (length_joined bs vs (omega arith))

-- ---- a voice that is prepared

shaped_by : (p : Play) (q : Queue) (v : Voice) → Four q → Shaped v → Shaped (prepared_by p q v).voice
unfolding prepared_by promoted stopped
shaped_by Started q v f h = record {
  ids = h.ids;
  buffers = length-map q.buffers settled ∙ f.buffers;
  valid = length_joined q.buffers q.valid (f.buffers ∙ sym f.valid) ∙ f.valid;
}
shaped_by Stopping q v f h = record { ids = h.ids; buffers = length-map q.buffers settled ∙ f.buffers; valid = refl }
shaped_by Stopped q v f h = record { ids = h.ids; buffers = f.buffers; valid = f.valid }
shaped_by Paused q v f h = record { ids = h.ids; buffers = f.buffers; valid = f.valid }

shaped_fresh : (v : Voice) → Shaped v → Shaped (freshened v)
shaped_fresh v h = record {
  ids = freshened_same (λ w. length w.channel_ids) v refl ∙ h.ids;
  buffers = freshened_same (λ w. length w.buffers) v refl ∙ h.buffers;
  valid = freshened_same (λ w. length w.valid) v refl ∙ h.valid;
}

pub begin_shaped : (v : Voice) → Shaped v → Shaped (begin_of v).voice
unfolding begin_of prepare_of
begin_shaped v h =
    let w = freshened v in
    let s = shaped_fresh v h in
    shaped_by w.play _ w (four_flushed w.flush w.base_index (queue_of w) (record { buffers = s.buffers; valid = s.valid })) s

pub begin_playing : {n : ℕ} {v : Voice} → Playing n v → Playing n (begin_of v).voice
begin_playing {n} {v} q = record {
  index = begin_index v q.index;
  base = rw begin_base q.base;
  channels = rw begin_channels q.channels;
  some = λ e. rw begin_channels (q.some (sym (begin_same (λ w. w.in_use) (λ p m r x w. refl) v refl) ∙ e));
  ids = subst (Ids n) (sym (begin_same (λ w. w.channel_ids) (λ p m r x w. refl) v refl)) q.ids;
  fraction = begin_fraction v q.fraction;
}

-- ---- a voice that has taken its turn

pub turn_shaped : (v : Voice) (r : Render) → Shaped v → Shaped (turn_of v r).voice
unfolding turn_of finished planned_by
turn_shaped v r h =
    let k = (plan_made (queue_of v) (source_of v r) (needed_by v r)).queue in
    record { ids = h.ids; buffers = ap length k.buffers ∙ h.buffers; valid = k.valid ∙ h.valid }

pub turn_playing : {n : ℕ} {v : Voice} (r : Render) → r.sample_count ≤ 256 → Playing n v → Playing n (turn_of v r).voice
unfolding turn_of finished
turn_playing {n} {v} r l q = record {
  index = index_kept v r q.index;
  base = q.base;
  channels = q.channels;
  some = q.some;
  ids = q.ids;
  fraction = fraction_unit v r q.fraction l;
}

-- ---- a voice in its rows

pub voice_shaped : (k : ℕ) (st : State) → Shaped (voice_in k st)
unfolding voice_on voice_of
voice_shaped k st = record { ids = refl; buffers = refl; valid = refl }

-- a voice that is stored is the one that is loaded
pub voice_put : {p : Params} {k : ℕ} {st : State} → Sized p st → k < p.voices → {v : Voice} → Shaped v → voice_in k (put_voice k v st) ≡ v
unfolding voice_on
voice_put {p} {k} {st} z h {v} s =
    let ew = part_put_same st.words (10 + k * 58) (words_of v) (rw (length_words v) (omega (arith, z.words))) 58 (length_words v) in
    let el = part_put_same st.longs (1 + k * 14) (longs_of v) (rw (length_longs v) (omega (arith, z.longs))) 14 (length_longs v) in
    let ef = part_put_same st.floats (k * 4) (floats_of v) (rw (length_floats v) (omega (arith, z.floats))) 4 (length_floats v) in
    (λ i. voice_of ((ew ∙ sym (append-nil (words_of v))) i) ((el ∙ sym (append-nil (longs_of v))) i) ((ef ∙ sym (append-nil (floats_of v))) i))
    ∙ voice_again v s [] [] []
