-- What a step at voice k leaves of a state. Assumes nothing.
use Rattle.std.specs.Prelude.{◌≡◌, Bool, ◌⊎◌, List, ℕ, ◌+◌, ◌*◌, ◌≤◌, ◌<◌, Float, length}
use Rattle.std.proofs.Math.Path.{refl, ap}
use Rattle.std.proofs.Common.{sym, subst, ◌∙◌, inl, inr, arith}
use Rattle.std.proofs.Math.Bool.{true, false}
use Rattle.rows.specs.Rows.{part, length_part}
use Rattle.params.specs.declared.params.Params.{Params}
use Rattle.state.specs.State.{State, Sized, mix_words, resources_in}
use Rattle.voice.specs.declared.Voice.{Voice}
use Rattle.voice.specs.declared.sound.Sound.{Sound}
use Rattle.voice.specs.declared.ready.Prepared.{Prepared}
use Rattle.voice.specs.Sound.{silent_sound}
use Rattle.voice_rows.specs.VoiceRow.{voice_of, words_of, longs_of, floats_of, length_words, length_longs, length_floats}
use Rattle.sound_rows.specs.SoundRow.{contexts_of, history_of, length_contexts}
use Rattle.voice_sends.specs.Sending.{taken_over}
use Rattle.voice_sends.specs.Laws.{length_taken_over}
use Rattle.state_voices.specs.StateVoices.{voice_on, voice_in, put_voice, put_sound, with_floats, fresh_floats, taken, reset_by, unready, Playing}
use Rattle.state_voices.specs.Rows.{put_length, put_apart, before_or_after}

-- the lengths, the words before and behind the voices' rows, the elapsed renders, and every other voice with the rows of its sound
pub record OnlyVoice (p : Params) (k : ℕ) (a b : State) : Type 0 where
  pub sized : Sized p b
  pub front : part 10 0 b.words ≡ part 10 0 a.words
  pub behind : (w at : ℕ) → mix_words p ≤ at → part w at b.words ≡ part w at a.words
  pub elapsed : part 1 0 b.longs ≡ part 1 0 a.longs
  pub others : (j : ℕ) → j < p.voices → (j ≡ k → ⊥) → voice_in j b ≡ voice_in j a
  pub contexts : (j : ℕ) → j < p.voices → (j ≡ k → ⊥) → part 3 (j * 3) b.contexts ≡ part 3 (j * 3) a.contexts
  pub history : (j : ℕ) → j < p.voices → (j ≡ k → ⊥) → part 18 (j * 18) b.history ≡ part 18 (j * 18) a.history

pub only_same : {p : Params} {k : ℕ} {st : State} → Sized p st → OnlyVoice p k st st
only_same z = record {
  sized = z;
  front = refl;
  behind = λ w at h. refl;
  elapsed = refl;
  others = λ j h n. refl;
  contexts = λ j h n. refl;
  history = λ j h n. refl;
}

pub only_then : {p : Params} {k : ℕ} {a b c : State} → OnlyVoice p k a b → OnlyVoice p k b c → OnlyVoice p k a c
only_then x y = record {
  sized = y.sized;
  front = y.front ∙ x.front;
  behind = λ w at h. y.behind w at h ∙ x.behind w at h;
  elapsed = y.elapsed ∙ x.elapsed;
  others = λ j h n. y.others j h n ∙ x.others j h n;
  contexts = λ j h n. y.contexts j h n ∙ x.contexts j h n;
  history = λ j h n. y.history j h n ∙ x.history j h n;
}

-- ---- floats that leave the voices' rows

module _ {p : Params} {st : State} (z : Sized p st) (f : List Float) (long : length f ≡ length st.floats)
    (same : (w at : ℕ) → at + w ≤ p.voices * 4 → part w at f ≡ part w at st.floats) where
  pub voice_floats_lem : (j : ℕ) → j < p.voices → voice_in j (with_floats f st) ≡ voice_in j st
  unfolding voice_on
  voice_floats_lem j h = ap (voice_of (part 58 (10 + j * 58) st.words) (part 14 (1 + j * 14) st.longs)) (same 4 (j * 4) (omega arith))

  pub only_floats : {k : ℕ} → OnlyVoice p k st (with_floats f st)
  only_floats = record {
    sized = record { words = z.words; longs = z.longs; floats = long ∙ z.floats; contexts = z.contexts; history = z.history };
    front = refl;
    behind = λ w at h. refl;
    elapsed = refl;
    others = λ j h n. voice_floats_lem j h;
    contexts = λ j h n. refl;
    history = λ j h n. refl;
  }

module _ {p : Params} {k : ℕ} {st : State} (z : Sized p st) (h : k < p.voices) where
  -- ---- a voice that is stored

  module _ (v : Voice) where
    words_fit : 10 + k * 58 + 58 ≤ length st.words
    words_fit = omega (arith, z.words)

    longs_fit : 1 + k * 14 + 14 ≤ length st.longs
    longs_fit = omega (arith, z.longs)

    floats_fit : k * 4 + 4 ≤ length st.floats
    floats_fit = omega (arith, z.floats)

    put_words : (w b : ℕ) → (b + w ≤ 10 + k * 58) ⊎ (10 + k * 58 + 58 ≤ b) → part w b (put_voice k v st).words ≡ part w b st.words
    put_words = put_apart st.words (10 + k * 58) 58 (words_of v) (length_words v) words_fit

    put_longs : (w b : ℕ) → (b + w ≤ 1 + k * 14) ⊎ (1 + k * 14 + 14 ≤ b) → part w b (put_voice k v st).longs ≡ part w b st.longs
    put_longs = put_apart st.longs (1 + k * 14) 14 (longs_of v) (length_longs v) longs_fit

    put_floats : (w b : ℕ) → (b + w ≤ k * 4) ⊎ (k * 4 + 4 ≤ b) → part w b (put_voice k v st).floats ≡ part w b st.floats
    put_floats = put_apart st.floats (k * 4) 4 (floats_of v) (length_floats v) floats_fit

    voice_apart : (j : ℕ) → (j < k) ⊎ (k < j) → voice_in j (put_voice k v st) ≡ voice_in j st
    unfolding voice_on
    voice_apart j (inl l) = λ i. voice_of (put_words 58 (10 + j * 58) (inl (omega arith)) i) (put_longs 14 (1 + j * 14) (inl (omega arith)) i) (put_floats 4 (j * 4) (inl (omega arith)) i)
    voice_apart j (inr l) = λ i. voice_of (put_words 58 (10 + j * 58) (inr (omega arith)) i) (put_longs 14 (1 + j * 14) (inr (omega arith)) i) (put_floats 4 (j * 4) (inr (omega arith)) i)

    pub only_voice : OnlyVoice p k st (put_voice k v st)
    only_voice = record {
      sized = record {
        words = put_length st.words (10 + k * 58) 58 (words_of v) (length_words v) words_fit ∙ z.words;
        longs = put_length st.longs (1 + k * 14) 14 (longs_of v) (length_longs v) longs_fit ∙ z.longs;
        floats = put_length st.floats (k * 4) 4 (floats_of v) (length_floats v) floats_fit ∙ z.floats;
        contexts = z.contexts;
        history = z.history;
      };
      front = put_words 10 0 (inl (omega arith));
      behind = λ w at g. put_words w at (inr (omega arith));
      elapsed = put_longs 1 0 (inl (omega arith));
      others = λ j l n. voice_apart j (before_or_after j k n);
      contexts = λ j l n. refl;
      history = λ j l n. refl;
    }

  -- ---- a sound that is stored

  module _ (s : Sound) (wide : length (history_of s) ≡ 18) where
    put_contexts : (j : ℕ) → (j < k) ⊎ (k < j) → part 3 (j * 3) (put_sound k s st).contexts ≡ part 3 (j * 3) st.contexts
    put_contexts j (inl l) = put_apart st.contexts (k * 3) 3 (contexts_of s) (length_contexts s) (omega (arith, z.contexts)) 3 (j * 3) (inl (omega arith))
    put_contexts j (inr l) = put_apart st.contexts (k * 3) 3 (contexts_of s) (length_contexts s) (omega (arith, z.contexts)) 3 (j * 3) (inr (omega arith))

    put_history : (j : ℕ) → (j < k) ⊎ (k < j) → part 18 (j * 18) (put_sound k s st).history ≡ part 18 (j * 18) st.history
    put_history j (inl l) = put_apart st.history (k * 18) 18 (history_of s) wide (omega (arith, z.history)) 18 (j * 18) (inl (omega arith))
    put_history j (inr l) = put_apart st.history (k * 18) 18 (history_of s) wide (omega (arith, z.history)) 18 (j * 18) (inr (omega arith))

    pub only_sound : OnlyVoice p k st (put_sound k s st)
    only_sound = record {
      sized = record {
        words = z.words;
        longs = z.longs;
        floats = z.floats;
        contexts = put_length st.contexts (k * 3) 3 (contexts_of s) (length_contexts s) (omega (arith, z.contexts)) ∙ z.contexts;
        history = put_length st.history (k * 18) 18 (history_of s) wide (omega (arith, z.history)) ∙ z.history;
      };
      front = refl;
      behind = λ w at g. refl;
      elapsed = refl;
      others = λ j l n. refl;
      contexts = λ j l n. put_contexts j (before_or_after j k n);
      history = λ j l n. put_history j (before_or_after j k n);
    }

-- ---- a voice that is not ready

length_silence : length (history_of silent_sound) ≡ 18
unfolding history_of silent_sound
length_silence = refl

only_reset : {p : Params} {k : ℕ} {st : State} → Sized p st → k < p.voices → (b : Bool) → OnlyVoice p k st (reset_by b k st)
unfolding reset_by
only_reset z h true = only_sound z h silent_sound length_silence
only_reset z h false = only_same z

pub only_unready : {p : Params} {k : ℕ} {st : State} → Sized p st → k < p.voices → (b : Prepared) → OnlyVoice p k st (unready k b st)
only_unready z h b = let o = only_voice z h b.voice in only_then o (only_reset o.sized h b.reset)

-- its sound is reset, and its position stays as it is put
reset_position : (b : Bool) (k : ℕ) (st : State) → voice_in k (reset_by b k st) ≡ voice_in k st
unfolding reset_by
reset_position true k st = refl
reset_position false k st = refl

pub unready_position : (k : ℕ) (b : Prepared) (st : State) → voice_in k (unready k b st) ≡ voice_in k (put_voice k b.voice st)
unready_position k b st = reset_position b.reset k (put_voice k b.voice st)

-- ---- the resources of a fresh voice

module _ {p : Params} {st : State} (z : Sized p st) {v : Voice} (q : Playing p.voices v) where
  resources_fit : p.voices * 4 + p.voices * 48 ≤ length st.floats
  resources_fit = omega (arith, z.floats)

  taken_long : length (taken_over v.channel_ids v.channels (resources_in p st.floats)) ≡ p.voices * 48
  taken_long =
      let l = length_part (p.voices * 48) (p.voices * 4) st.floats resources_fit in
      length_taken_over q.ids v.channels (resources_in p st.floats) q.channels l ∙ l

  fresh_long : (b : Bool) → length (fresh_floats b p v st.floats) ≡ length st.floats
  unfolding fresh_floats
  fresh_long true = put_length st.floats (p.voices * 4) (p.voices * 48) _ taken_long resources_fit
  fresh_long false = refl

  fresh_same : (b : Bool) (w at : ℕ) → at + w ≤ p.voices * 4 → part w at (fresh_floats b p v st.floats) ≡ part w at st.floats
  unfolding fresh_floats
  fresh_same true w at h = put_apart st.floats (p.voices * 4) (p.voices * 48) _ taken_long resources_fit w at (inl h)
  fresh_same false w at h = refl

  pub only_taken : {k : ℕ} → OnlyVoice p k st (taken p v st)
  only_taken = only_floats z _ (fresh_long v.fresh) (fresh_same v.fresh)

  pub taken_sized : {f : List Float} → f ≡ fresh_floats v.fresh p v st.floats → Sized p (with_floats f st)
  taken_sized e = subst (λ (x : List Float). Sized p (with_floats x st)) (sym e) (only_taken {k = 0}).sized
