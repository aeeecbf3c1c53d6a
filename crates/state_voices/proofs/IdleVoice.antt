-- A voice with nothing to do, as its words say: what its turn does before it fetches leaves the state. Assumes nothing.
use mathlib.Core.Path.{◌≡◌, refl, ap, sym, ◌∙◌}
use mathlib.Core.Bool.{Bool, true, false, not, ◌&&◌}
use mathlib.Core.Logic.{◌⊎◌, inl, inr}
use mathlib.Core.List.{List}
use Prim.Native.Nat.{ℕ, ◌+◌, ◌*◌, ◌≤◌, ◌<◌}
use native.Mathlib.Omega.{arith}
use lib.Dec.{eqb}
use lib.Ieee.{Float}
use lib.ListN.{length, get_or}
use Rattle.rows.specs.Rows.{part, put, length_part, put_part}
use Rattle.params.specs.declared.params.Params.{Params}
use Rattle.state.specs.State.{State, state_of, Sized}
use Rattle.voice.specs.declared.play.Play.TheVariants.{Stopped, Paused}
use Rattle.voice_rows.specs.WaveRow.{flag_of}
use Rattle.voice_rows.specs.VoiceRow.{play_of, voice_of}
use Rattle.voice_rows.specs.IdleRow.{StoredRow, WaitingRow, unused, empty, waiting}
use Rattle.sound_rows.specs.Spelled.{part_at}
use Rattle.row_trips.specs.Trip.{WholeRow, words_again, longs_again, floats_again}
use Rattle.turn.specs.Turn.{takes_part}
use Rattle.turn.proofs.Waiting.{Waiting, unprepared, begin_waiting}
use Rattle.state_voices.specs.StateVoices.{voice_on, voice_in, Idle, put_voice, reset_by, begun_of, begun}
use Rattle.state_voices.specs.Made.{not_fresh, stored_unready, begun_part, begun_none}

-- ---- what the words say of the voice

and_false : (b : Bool) → b && false ≡ false
and_false true = refl
and_false false = refl

module _ (w l : List ℕ) (f : List Float) where
  unused_part : get_or w 0 0 ≡ 0 → takes_part (voice_of w l f) ≡ false
  unfolding takes_part voice_of
  unused_part e =
      let z = part_at 26 0 w 0 0 (omega arith) ∙ e in
      λ i. not (eqb (z i) 0) && not (eqb (get_or (part 26 0 w) 6 0) 0)

  empty_part : get_or w 6 0 ≡ 0 → takes_part (voice_of w l f) ≡ false
  unfolding takes_part voice_of
  empty_part e =
      let z = part_at 26 0 w 6 0 (omega arith) ∙ e in
      let used = not (eqb (get_or (part 26 0 w) 0 0) 0) in
      (λ i. used && not (eqb (z i) 0)) ∙ and_false used

  play_waits : (get_or w 2 0 ≡ 1) ⊎ (get_or w 2 0 ≡ 3) → (play_of (get_or w 2 0) ≡ Stopped) ⊎ (play_of (get_or w 2 0) ≡ Paused)
  play_waits (inl e) = inl (ap play_of e)
  play_waits (inr e) = inr (ap play_of e)

  voice_waits : WaitingRow w → Waiting (voice_of w l f)
  unfolding voice_of
  voice_waits r = record {
    fresh = ap flag_of (part_at 26 0 w 1 0 (omega arith) ∙ r.fresh);
    play = play_waits r.play;
    flush = part_at 26 0 w 8 0 (omega arith) ∙ r.flush;
  }

-- ---- voice k

module _ {p : Params} {k : ℕ} {st : State} (z : Sized p st) (h : k < p.voices) where
  abbrev W : List ℕ
  W = part 58 (10 + k * 58) st.words

  abbrev L : List ℕ
  L = part 14 (1 + k * 14) st.longs

  abbrev F : List Float
  F = part 4 (k * 4) st.floats

  -- stored as it was loaded, it leaves the state
  pub voice_kept : StoredRow W → put_voice k (voice_in k st) st ≡ st
  unfolding voice_on
  voice_kept s =
      let w : 10 + k * 58 + 58 ≤ length st.words = omega (arith, z.words) in
      let l : 1 + k * 14 + 14 ≤ length st.longs = omega (arith, z.longs) in
      let f : k * 4 + 4 ≤ length st.floats = omega (arith, z.floats) in
      let r : WholeRow W L F = record {
        words = length_part 58 (10 + k * 58) st.words w;
        longs = length_part 14 (1 + k * 14) st.longs l;
        floats = length_part 4 (k * 4) st.floats f;
        stored = s;
      } in
      let ew = ap (put st.words (10 + k * 58)) (words_again W L F r) ∙ put_part 58 (10 + k * 58) st.words w in
      let el = ap (put st.longs (1 + k * 14)) (longs_again W L F r) ∙ put_part 14 (1 + k * 14) st.longs l in
      let ef = ap (put st.floats (k * 4)) (floats_again W L F r) ∙ put_part 4 (k * 4) st.floats f in
      λ i. state_of (ew i) (el i) (ef i) st.contexts st.history

  -- a voice that waits, whether or not it takes part
  waiting_begun : StoredRow W → Waiting (voice_in k st) → (t : Bool) → takes_part (voice_in k st) ≡ t
      → begun_of st (unprepared (voice_in k st)) ≡ begun p k st
  unfolding reset_by
  waiting_begun s r true e =
      let v = voice_in k st in
      begun_part p k st refl refl e (not_fresh p v st.floats r.fresh) (sym (begin_waiting v r))
      (stored_unready k (unprepared v) st refl (sym (voice_kept s)))
  waiting_begun s r false e = begun_none p k st refl refl e

  -- nothing is begun, and the voice is not ready
  pub idle_begun : Idle k st.words → begun_of st (unprepared (voice_in k st)) ≡ begun p k st
  unfolding voice_on
  idle_begun (unused e) = begun_none p k st refl refl (unused_part W L F e)
  idle_begun (empty e) = begun_none p k st refl refl (empty_part W L F e)
  idle_begun (waiting r) = waiting_begun r.stored (voice_waits W L F r) (takes_part (voice_in k st)) refl
