-- What the functions of a voice put together is what their definitions say. Assumes nothing.
use Rattle.std.specs.Prelude.{◌≡◌, ℕ, zero, suc, ◌*◌, Bool, true, false, cond, not, List, ◌==◌, ◌≢◌, slice_set, refl}
use Rattle.std.proofs.Common.{arith, ap, sym, le-leb, eq-eqb, ne_eqb}
use Rattle.adpcm.specs.Places.{size_of}
use Rattle.fields.specs.Fields.{field_at, flag_at}
use Rattle.voice.specs.declared.play.Play.{Play}
use Rattle.voice.specs.declared.play.Play.TheVariants.{Started, Paused}
use Rattle.voice.specs.declared.wave.WaveBuffer.{WaveBuffer}
use Rattle.voice.specs.declared.queue.Queue.{Queue}
use Rattle.voice.specs.Play.{stop_play, set_play}
use Rattle.voice.specs.Wave.{parse_of, bytes_before, both_fit, offsets_valid}
use Rattle.voice.specs.Queue.{buffer_at, next_slot, more32, end_buffer}
use Rattle.voice.specs.Voice.{has_destination}

-- ---- destination and play mark

pub to_mix_lem : (mix splitter : ℕ) → (mix ≢ 0x7fffffff) → true ≡ has_destination mix splitter
unfolding has_destination
to_mix_lem mix splitter h = rw (ne_eqb mix 0x7fffffff h)

pub to_splitter : (mix splitter : ℕ) → mix ≡ 0x7fffffff → not (splitter == 0xffffffff) ≡ has_destination mix splitter
unfolding has_destination
to_splitter mix splitter h = rw (eq-eqb mix 0x7fffffff h)

pub play_started : (p : Play) (r : ℕ) → r ≡ 0 → Started ≡ set_play p r
unfolding set_play
play_started p r h = rw h

pub play_stopped : {p q : Play} (r : ℕ) → r ≡ 1 → p ≡ q → stop_play q ≡ set_play p r
unfolding set_play
play_stopped r h e = rw h (ap stop_play (sym e))

pub play_paused : (p : Play) (r : ℕ) → (r ≢ 0) → (r ≢ 1) → Paused ≡ set_play p r
unfolding set_play
play_paused p zero h₀ h₁ = absurd (h₀ refl)
play_paused p (suc zero) h₀ h₁ = absurd (h₁ refl)
play_paused p (suc (suc n)) h₀ h₁ = refl

-- ---- wave buffers

pub parse_made : (w : List ℕ) {a z s e n x i j : ℕ} {l t : Bool} → a ≡ field_at 8 w 0x00 → z ≡ field_at 8 w 0x08 → s ≡ field_at 4 w 0x10 → e ≡ field_at 4 w 0x14
    → l ≡ flag_at w 0x18 → t ≡ flag_at w 0x19 → n ≡ field_at 4 w 0x1c → x ≡ field_at 8 w 0x20 → i ≡ field_at 4 w 0x30 → j ≡ field_at 4 w 0x34
    → record {
      addr = a;
      size = z;
      start = s;
      end = e;
      looping = l;
      end_of_stream = t;
      loop_count = n;
      context = x;
      loop_start = i;
      loop_end = j;
      pending = true;
    } ≡ parse_of w
unfolding parse_of
parse_made w ea ez es ee el et en ex ei ej = λ k. record {
  addr = ea k;
  size = ez k;
  start = es k;
  end = ee k;
  looping = el k;
  end_of_stream = et k;
  loop_count = en k;
  context = ex k;
  loop_start = ei k;
  loop_end = ej k;
  pending = true;
}

pub offsets_pcm16 : (w : WaveBuffer) {f : ℕ} → f ≡ 2 → both_fit (w.start * 2) (w.end * 2) w.size ≡ offsets_valid w f
unfolding offsets_valid bytes_before
offsets_pcm16 w h = rw h

pub offsets_float : (w : WaveBuffer) {f : ℕ} → f ≡ 5 → both_fit (w.start * 4) (w.end * 4) w.size ≡ offsets_valid w f
unfolding offsets_valid bytes_before
offsets_float w h = rw h

pub offsets_adpcm : (w : WaveBuffer) {f s e : ℕ} → f ≡ 6 → s ≡ size_of w.start → e ≡ size_of w.end → both_fit s e w.size ≡ offsets_valid w f
unfolding offsets_valid bytes_before
offsets_adpcm w h es ee = rw (h, es, ee)

bytes_none : (f n : ℕ) → (f ≢ 2) → (f ≢ 5) → (f ≢ 6) → bytes_before f n ≡ 0
unfolding bytes_before
bytes_none f n h₂ h₅ h₆ = rw (ne_eqb f 2 h₂, ne_eqb f 5 h₅, ne_eqb f 6 h₆)

pub offsets_other : (w : WaveBuffer) {f : ℕ} → (f ≢ 2) → (f ≢ 5) → (f ≢ 6) → true ≡ offsets_valid w f
unfolding offsets_valid
offsets_other w {f} h₂ h₅ h₆ = rw (bytes_none f w.start h₂ h₅ h₆, bytes_none f w.end h₂ h₅ h₆, le-leb 0 w.size (omega arith))

-- ---- the queue

pub end_made : (q : Queue) {i n : ℕ} {t : Bool} → i ≡ next_slot q.index → n ≡ more32 q.consumed → (buffer_at q q.index).end_of_stream ≡ t
    → record {
      buffers = q.buffers;
      valid = slice_set q.valid q.index false;
      index = i;
      consumed = n;
      offset = q.offset;
      played = cond t 0 q.played;
      loops = 0;
    } ≡ end_buffer q
unfolding end_buffer
end_made q ei en et = λ j. record {
  buffers = q.buffers;
  valid = slice_set q.valid q.index false;
  index = ei j;
  consumed = en j;
  offset = q.offset;
  played = cond (sym et j) 0 q.played;
  loops = 0;
}
