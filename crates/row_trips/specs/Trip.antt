-- A voice that is stored and loaded is the same, and so is a whole row that is loaded and stored. Assumes nothing.
use Rattle.std.specs.Prelude.{◌≡◌, Bool, false, List, [], ◌∷◌, ◌++◌, ℕ, ◌+◌, ◌≤◌, ◌<◌, length, Float}
use Rattle.std.proofs.Math.Path.{sym}
use Rattle.std.proofs.Common.{◌∙◌, arith, length-drop, length-take-le}
use Rattle.std.proofs.Math.ListN.{get_or}
use Rattle.std.specs.Float.Ieee.{nan}
use Rattle.rows.specs.Rows.{part}
use Rattle.voice.specs.declared.wave.WaveBuffer.{WaveBuffer}
use Rattle.voice.specs.declared.Voice.{Voice}
use Rattle.voice.specs.Queue.{no_buffer}
use Rattle.voice_rows.specs.WaveRow.{wave_from, words_from_wave, longs_from_wave, wave_of, words_of_wave, longs_of_wave}
use Rattle.voice_rows.specs.VoiceRow.{play_of, word_of_play, voice_of, head_of, top_of, words_of, longs_of, floats_of}
use Rattle.voice_rows.specs.IdleRow.{StoredWave, StoredRow}
use Rattle.sound_rows.specs.Spelled.{spelled, part_at, part_on, part_whole}
use Rattle.row_trips.specs.Marks.{flag_again, flag_word, play_again, play_word}

-- ---- store, then load

-- a voice whose arrays have their lengths
pub record Shaped (v : Voice) : Type 0 where
  pub ids : length v.channel_ids ≡ 6
  pub buffers : length v.buffers ≡ 4
  pub valid : length v.valid ≡ 4

wave_again : (b : WaveBuffer) → wave_from (words_from_wave b) (longs_from_wave b) ≡ b
wave_again b = λ i. record {
  addr = b.addr;
  size = b.size;
  start = b.start;
  end = b.end;
  looping = flag_again b.looping i;
  end_of_stream = flag_again b.end_of_stream i;
  loop_count = b.loop_count;
  context = b.context;
  loop_start = b.loop_start;
  loop_end = b.loop_end;
  pending = flag_again b.pending i;
}

-- whatever stands after the rows
pub voice_again : (v : Voice) → Shaped v → (x y : List ℕ) (z : List Float) → voice_of (words_of v ++ x) (longs_of v ++ y) (floats_of v ++ z) ≡ v
unfolding voice_of words_of longs_of floats_of head_of top_of words_of_wave longs_of_wave wave_of part
voice_again v h x y z =
    let b : ℕ → WaveBuffer = λ k. get_or v.buffers k no_buffer in
    let f : ℕ → Bool = λ k. get_or v.valid k false in
    let bs = (λ i. wave_again (b 0) i ∷ wave_again (b 1) i ∷ wave_again (b 2) i ∷ wave_again (b 3) i ∷ []) ∙ spelled 4 no_buffer v.buffers h.buffers in
    let vs = (λ i. flag_again (f 0) i ∷ flag_again (f 1) i ∷ flag_again (f 2) i ∷ flag_again (f 3) i ∷ []) ∙ spelled 4 false v.valid h.valid in
    λ i. record {
      in_use = flag_again v.in_use i;
      fresh = flag_again v.fresh i;
      play = play_again v.play i;
      format = v.format;
      sample_rate = v.sample_rate;
      channels = v.channels;
      pitch = v.pitch;
      volume = v.volume;
      previous_volume = v.previous_volume;
      queued = v.queued;
      base_index = v.base_index;
      flush = v.flush;
      decoding = v.decoding;
      mix_id = v.mix_id;
      splitter_id = v.splitter_id;
      channel_ids = spelled 6 0 v.channel_ids h.ids i;
      data_source = v.data_source;
      buffers = bs i;
      valid = vs i;
      index = v.index;
      consumed = v.consumed;
      offset = v.offset;
      played = v.played;
      loops = v.loops;
      fraction = v.fraction;
    }

-- ---- load, then store

-- a row that a voice can be
pub record WholeRow (w l : List ℕ) (f : List Float) : Type 0 where
  pub words : length w ≡ 58
  pub longs : length l ≡ 14
  pub floats : length f ≡ 4
  pub stored : StoredRow w

part_length {ℓ} : {A : Type ℓ} (w at : ℕ) (s : List A) → at + w ≤ length s → length (part w at s) ≡ w
unfolding part
part_length w at s h = length-take-le w _ (rw length-drop (omega arith))

wave_words : (r l : List ℕ) → length r ≡ 8 → get_or r 2 0 ≤ 1 → get_or r 3 0 ≤ 1 → get_or r 7 0 ≤ 1 → words_of_wave (wave_of r l) ≡ r
unfolding words_of_wave wave_of
wave_words r l h a b c =
    (λ i. get_or r 0 0 ∷ get_or r 1 0 ∷ flag_word (get_or r 2 0) a i ∷ flag_word (get_or r 3 0) b i ∷ get_or r 4 0 ∷ get_or r 5 0 ∷ get_or r 6 0 ∷ flag_word (get_or r 7 0) c i ∷ [])
    ∙ spelled 8 0 r h

wave_longs : (r l : List ℕ) → length l ≡ 3 → longs_of_wave (wave_of r l) ≡ l
unfolding longs_of_wave wave_of
wave_longs r l h = spelled 3 0 l h

module _ (w l : List ℕ) (f : List Float) (h : WholeRow w l f) where
  -- a flag of a part
  flag_in : (n at k : ℕ) → k < n → get_or w (at + k) 0 ≤ 1 → get_or (part n at w) k 0 ≤ 1
  flag_in n at k a s = rw (part_at n at w k 0 a) s

  wave_part : (at : ℕ) → at + 8 ≤ 58 → StoredWave w at → (m : List ℕ) → words_of_wave (wave_of (part 8 at w) m) ≡ part 8 at w
  wave_part at b s m =
      wave_words (part 8 at w) m (part_length 8 at w (rw h.words b))
      (flag_in 8 at 2 (omega arith) s.looping) (flag_in 8 at 3 (omega arith) s.end_of_stream)
      (flag_in 8 at 7 (omega arith) s.pending)

  head_again : head_of (voice_of w l f) ≡ part 26 0 w
  unfolding head_of voice_of
  head_again =
      let r = part 26 0 w in
      let s = h.stored in
      let p : word_of_play (play_of (get_or w 2 0)) ≡ get_or r 2 0 = play_word (get_or w 2 0) s.play ∙ sym (part_at 26 0 w 2 0 (omega arith)) in
      (λ i. flag_word (get_or r 0 0) (flag_in 26 0 0 (omega arith) s.used) i
      ∷ flag_word (get_or r 1 0) (flag_in 26 0 1 (omega arith) s.fresh) i ∷ p i
      ∷ get_or r 3 0 ∷ get_or r 4 0 ∷ get_or r 5 0 ∷ get_or r 6 0 ∷ get_or r 7 0 ∷ get_or r 8 0 ∷ get_or r 9 0 ∷ get_or r 10 0 ∷ get_or r 11 0
      ∷ get_or r 12 0 ∷ get_or r 13 0 ∷ get_or r 14 0 ∷ get_or r 15 0 ∷ get_or r 16 0 ∷ get_or r 17 0
      ∷ flag_word (get_or r 18 0) (flag_in 26 0 18 (omega arith) (s.valid 0 (omega arith))) i
      ∷ flag_word (get_or r 19 0) (flag_in 26 0 19 (omega arith) (s.valid 1 (omega arith))) i
      ∷ flag_word (get_or r 20 0) (flag_in 26 0 20 (omega arith) (s.valid 2 (omega arith))) i
      ∷ flag_word (get_or r 21 0) (flag_in 26 0 21 (omega arith) (s.valid 3 (omega arith))) i
      ∷ get_or r 22 0 ∷ get_or r 23 0 ∷ get_or r 24 0 ∷ get_or r 25 0 ∷ [])
      ∙ spelled 26 0 r (part_length 26 0 w (rw h.words (omega arith)))

  pub words_again : words_of (voice_of w l f) ≡ w
  unfolding words_of voice_of
  words_again =
      let s = h.stored.waves in
      (λ i. (((head_again i ++ wave_part 26 (omega arith) (s 0 (omega arith)) (part 3 2 l) i)
      ++ wave_part 34 (omega arith) (s 1 (omega arith)) (part 3 5 l) i)
      ++ wave_part 42 (omega arith) (s 2 (omega arith)) (part 3 8 l) i) ++ wave_part 50 (omega arith) (s 3 (omega arith)) (part 3 11 l) i)
      ∙ (λ i. ((part_on 26 8 w i ++ part 8 34 w) ++ part 8 42 w) ++ part 8 50 w)
      ∙ (λ i. (part_on 34 8 w i ++ part 8 42 w) ++ part 8 50 w)
      ∙ (λ i. part_on 42 8 w i ++ part 8 50 w)
      ∙ part_on 50 8 w
      ∙ part_whole 58 w h.words

  long_part : (at : ℕ) → at + 3 ≤ 14 → (m : List ℕ) → longs_of_wave (wave_of m (part 3 at l)) ≡ part 3 at l
  long_part at b m = wave_longs m (part 3 at l) (part_length 3 at l (rw h.longs b))

  top_again : top_of (voice_of w l f) ≡ part 2 0 l
  unfolding top_of voice_of
  top_again = spelled 2 0 (part 2 0 l) (part_length 2 0 l (rw h.longs (omega arith)))

  pub longs_again : longs_of (voice_of w l f) ≡ l
  unfolding longs_of voice_of
  longs_again =
      (λ i. (((top_again i ++ long_part 2 (omega arith) (part 8 26 w) i) ++ long_part 5 (omega arith) (part 8 34 w) i) ++ long_part 8 (omega arith) (part 8 42 w) i)
      ++ long_part 11 (omega arith) (part 8 50 w) i)
      ∙ (λ i. ((part_on 2 3 l i ++ part 3 5 l) ++ part 3 8 l) ++ part 3 11 l)
      ∙ (λ i. (part_on 5 3 l i ++ part 3 8 l) ++ part 3 11 l)
      ∙ (λ i. part_on 8 3 l i ++ part 3 11 l)
      ∙ part_on 11 3 l
      ∙ part_whole 14 l h.longs

  pub floats_again : floats_of (voice_of w l f) ≡ f
  unfolding floats_of voice_of
  floats_again = spelled 4 nan (part 4 0 f) (part_length 4 0 f (rw h.floats (omega arith))) ∙ part_whole 4 f h.floats
