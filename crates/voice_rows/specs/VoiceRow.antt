-- A voice's rows: 58 words, 14 longs, 4 floats. Assumes nothing.
use Rattle.std.specs.Prelude.{◌≡◌, refl, List, [], ◌∷◌, ◌++◌, false, ℕ, zero, suc, ◌+◌, ◌≤◌, length, get_or, Float}
use Rattle.std.proofs.Common.{arith, length-append}
use Rattle.std.specs.Float.{nan}
use Rattle.rows.specs.Rows.{part, put, put_more}
use Rattle.voice.specs.declared.play.Play.{Play}
use Rattle.voice.specs.declared.play.Play.TheVariants.{Started, Stopped, Stopping, Paused}
use Rattle.voice.specs.declared.wave.WaveBuffer.{WaveBuffer}
use Rattle.voice.specs.declared.Voice.{Voice}
use Rattle.voice.specs.Queue.{no_buffer}
use Rattle.voice_rows.specs.WaveRow.{flag_of, word_of_flag, wave_of, words_of_wave, longs_of_wave, length_wave_words, length_wave_longs}

-- Started 0, Stopped 1, Stopping 2, Paused 3; any other word reads as Paused
abbrev pub play_of : ℕ → Play
play_of zero = Started
play_of (suc zero) = Stopped
play_of (suc (suc zero)) = Stopping
play_of (suc (suc (suc n))) = Paused

abbrev pub word_of_play : Play → ℕ
word_of_play Started = 0
word_of_play Stopped = 1
word_of_play Stopping = 2
word_of_play Paused = 3

pub play_rest : (n : ℕ) → (n ≡ 0 → ⊥) → (n ≡ 1 → ⊥) → (n ≡ 2 → ⊥) → Paused ≡ play_of n
play_rest zero a b c = absurd (a refl)
play_rest (suc zero) a b c = absurd (b refl)
play_rest (suc (suc zero)) a b c = absurd (c refl)
play_rest (suc (suc (suc n))) a b c = refl

-- ---- the parts: 26 words before those of the wave buffers, 2 longs, 4 floats

abbrev pub voice_from : List ℕ → Play → List ℕ → List WaveBuffer → List Float → Voice
voice_from w p l bs f = record {
  in_use = flag_of (get_or w 0 0);
  fresh = flag_of (get_or w 1 0);
  play = p;
  format = get_or w 3 0;
  sample_rate = get_or w 4 0;
  channels = get_or w 5 0;
  pitch = get_or f 0 nan;
  volume = get_or f 1 nan;
  previous_volume = get_or f 2 nan;
  queued = get_or w 6 0;
  base_index = get_or w 7 0;
  flush = get_or w 8 0;
  decoding = get_or w 9 0;
  mix_id = get_or w 10 0;
  splitter_id = get_or w 11 0;
  channel_ids = get_or w 12 0 ∷ get_or w 13 0 ∷ get_or w 14 0 ∷ get_or w 15 0 ∷ get_or w 16 0 ∷ get_or w 17 0 ∷ [];
  data_source = get_or l 0 0;
  buffers = bs;
  valid = flag_of (get_or w 18 0) ∷ flag_of (get_or w 19 0) ∷ flag_of (get_or w 20 0) ∷ flag_of (get_or w 21 0) ∷ [];
  index = get_or w 22 0;
  consumed = get_or w 23 0;
  offset = get_or w 24 0;
  played = get_or l 1 0;
  loops = get_or w 25 0;
  fraction = get_or f 3 nan;
}

abbrev pub head_from : Voice → ℕ → List ℕ
head_from v p =
    word_of_flag v.in_use ∷ word_of_flag v.fresh ∷ p ∷ v.format ∷ v.sample_rate ∷ v.channels
    ∷ v.queued ∷ v.base_index ∷ v.flush ∷ v.decoding ∷ v.mix_id ∷ v.splitter_id
    ∷ get_or v.channel_ids 0 0 ∷ get_or v.channel_ids 1 0 ∷ get_or v.channel_ids 2 0
    ∷ get_or v.channel_ids 3 0 ∷ get_or v.channel_ids 4 0 ∷ get_or v.channel_ids 5 0
    ∷ word_of_flag (get_or v.valid 0 false) ∷ word_of_flag (get_or v.valid 1 false) ∷ word_of_flag (get_or v.valid 2 false) ∷ word_of_flag (get_or v.valid 3 false)
    ∷ v.index ∷ v.consumed ∷ v.offset ∷ v.loops ∷ []

abbrev pub top_from : Voice → List ℕ
top_from v = v.data_source ∷ v.played ∷ []

abbrev pub floats_from : Voice → List Float
floats_from v = v.pitch ∷ v.volume ∷ v.previous_volume ∷ v.fraction ∷ []

-- ---- shut: what callers cite

unfoldable pub head_of : Voice → List ℕ
head_of v = head_from v (word_of_play v.play)

unfoldable pub top_of : Voice → List ℕ
top_of v = top_from v

unfoldable pub floats_of : Voice → List Float
floats_of v = floats_from v

abbrev pub wave_at : Voice → ℕ → WaveBuffer
wave_at v k = get_or v.buffers k no_buffer

-- a first part, and then one for each wave buffer
abbrev pub with_waves : List ℕ → (WaveBuffer → List ℕ) → Voice → List ℕ
with_waves h f v = (((h ++ f (wave_at v 0)) ++ f (wave_at v 1)) ++ f (wave_at v 2)) ++ f (wave_at v 3)

unfoldable pub words_of : Voice → List ℕ
words_of v = with_waves (head_of v) words_of_wave v

unfoldable pub longs_of : Voice → List ℕ
longs_of v = with_waves (top_of v) longs_of_wave v

unfoldable pub voice_of : List ℕ → List ℕ → List Float → Voice
voice_of w l f =
    voice_from (part 26 0 w) (play_of (get_or w 2 0)) (part 2 0 l)
    (wave_of (part 8 26 w) (part 3 2 l) ∷ wave_of (part 8 34 w) (part 3 5 l) ∷ wave_of (part 8 42 w) (part 3 8 l) ∷ wave_of (part 8 50 w) (part 3 11 l) ∷ [])
    (part 4 0 f)

-- ---- lengths

pub length_head : (v : Voice) → length (head_of v) ≡ 26
unfolding head_of
length_head v = refl

pub length_top : (v : Voice) → length (top_of v) ≡ 2
unfolding top_of
length_top v = refl

pub length_words : (v : Voice) → length (words_of v) ≡ 58
unfolding words_of
length_words v = simp (length-append, length_head, length_wave_words)

pub length_longs : (v : Voice) → length (longs_of v) ≡ 14
unfolding longs_of
length_longs v = simp (length-append, length_top, length_wave_longs)

pub length_floats : (v : Voice) → length (floats_of v) ≡ 4
unfolding floats_of
length_floats v = refl

-- ---- what the functions put together

pub voice_made : (w l : List ℕ) (f : List Float) {h t : List ℕ} {p : Play} {b₀ b₁ b₂ b₃ : WaveBuffer} {g : List Float}
    → h ≡ part 26 0 w → t ≡ part 2 0 l → g ≡ part 4 0 f → p ≡ play_of (get_or w 2 0)
    → b₀ ≡ wave_of (part 8 26 w) (part 3 2 l) → b₁ ≡ wave_of (part 8 34 w) (part 3 5 l)
    → b₂ ≡ wave_of (part 8 42 w) (part 3 8 l) → b₃ ≡ wave_of (part 8 50 w) (part 3 11 l)
    → voice_from h p t (b₀ ∷ b₁ ∷ b₂ ∷ b₃ ∷ []) g ≡ voice_of w l f
unfolding voice_of
voice_made w l f eh et eg ep e₀ e₁ e₂ e₃ = λ i. voice_from (eh i) (ep i) (et i) (e₀ i ∷ e₁ i ∷ e₂ i ∷ e₃ i ∷ []) (eg i)

-- a first part of n elements and then four of w, stored one after the other
pub waves_stored : (h : List ℕ) (f : WaveBuffer → List ℕ) (n w : ℕ) → length h ≡ n → ((b : WaveBuffer) → length (f b) ≡ w)
    → (v : Voice) (s : List ℕ) (at : ℕ) {s₀ s₁ s₂ s₃ s₄ : List ℕ} → at + (n + w + w + w + w) ≤ length s
    → s₀ ≡ put s at h
    → s₁ ≡ put s₀ (at + n) (f (wave_at v 0))
    → s₂ ≡ put s₁ (at + (n + w)) (f (wave_at v 1))
    → s₃ ≡ put s₂ (at + (n + w + w)) (f (wave_at v 2))
    → s₄ ≡ put s₃ (at + (n + w + w + w)) (f (wave_at v 3))
    → s₄ ≡ put s at (with_waves h f v)
waves_stored h f n w lh lf v s at fits e₀ e₁ e₂ e₃ e₄ =
    let l₁ : length (h ++ f (wave_at v 0)) ≡ n + w = rw (length-append, lh, lf) in
    let l₂ : length ((h ++ f (wave_at v 0)) ++ f (wave_at v 1)) ≡ n + w + w = rw (length-append, l₁, lf) in
    let l₃ : length (((h ++ f (wave_at v 0)) ++ f (wave_at v 1)) ++ f (wave_at v 2)) ≡ n + w + w + w = rw (length-append, l₂, lf) in
    put_more s at (n + w + w + w) (((h ++ f (wave_at v 0)) ++ f (wave_at v 1)) ++ f (wave_at v 2)) (f (wave_at v 3)) l₃ (rw lf (omega arith))
    (put_more s at (n + w + w) ((h ++ f (wave_at v 0)) ++ f (wave_at v 1)) (f (wave_at v 2)) l₂ (rw lf (omega arith))
    (put_more s at (n + w) (h ++ f (wave_at v 0)) (f (wave_at v 1)) l₁ (rw lf (omega arith))
    (put_more s at n h (f (wave_at v 0)) lh (rw lf (omega arith)) e₀ e₁) e₂) e₃) e₄
