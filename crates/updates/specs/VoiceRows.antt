-- The voices' rows, lent from the state's slices and come back. Assumes nothing.
use Rattle.std.specs.Prelude.{◌≡◌, refl, List, ◌++◌, ℕ, ◌-◌, ◌*◌, Float, take, drop}
use Rattle.std.proofs.Math.Path.{ap}
use Rattle.std.proofs.Common.{sym, ◌∙◌, zero-add, arith}
use Rattle.rows.specs.Rows.{part, length_part}
use Rattle.rows.specs.Lent.{lent, returned, part_cut, returned_is, part_between, returned_between}
use Rattle.state.specs.State.{State, state_of}
use Rattle.voices.specs.Voices.{VoiceRows, VoicesSized, rows_of, voices_of}
use Rattle.voices.specs.Own.{voices_sized}
use Rattle.updates.specs.Update.{VoicesInside, voice_rows_in, put_voices}

module _ (revision : ℕ) (d : List ℕ) (n : ℕ) (st : State) (h : VoicesInside n st) where
  -- what is lent
  abbrev pub lent_rows : VoiceRows
  lent_rows = rows_of (lent st.words 10 (n * 58)) (lent st.longs 1 (n * 14)) (take (n * 4 - 0) (drop 0 st.floats)) st.contexts st.history

  abbrev in_rows : VoiceRows
  in_rows = rows_of (part (n * 58) 10 st.words) (part (n * 14) 1 st.longs) (part (n * 4) 0 st.floats) st.contexts st.history

  lent_is : lent_rows ≡ in_rows
  lent_is =
      let f = part_between st.floats 0 (n * 4) refl (sym (zero-add (n * 4))) in
      λ i. rows_of (part_cut st.words 10 (n * 58) i) (part_cut st.longs 1 (n * 14) i) (f i) st.contexts st.history

  in_sized : VoicesSized n in_rows
  in_sized = record {
    few = h.few;
    words = length_part (n * 58) 10 st.words h.words;
    longs = length_part (n * 14) 1 st.longs h.longs;
    floats = length_part (n * 4) 0 st.floats (omega (arith, h.floats));
    contexts = h.contexts;
    history = h.history;
  }

  -- it is as long as it must be
  pub lent_sized : VoicesSized n lent_rows
  lent_sized = rw lent_is in_sized

  abbrev pub after : VoiceRows
  after = voices_of revision d n lent_rows

  after_is : after ≡ voice_rows_in revision d n st
  unfolding voice_rows_in
  after_is = ap (voices_of revision d n) lent_is

  pub voices_long : VoicesSized n (voice_rows_in revision d n st)
  unfolding voice_rows_in
  voices_long = voices_sized revision n d in_rows in_sized

  -- what comes back stands in the voices' places
  pub voices_back : {w : List ℕ} {l : List ℕ} {f : List Float} {x : List ℕ} {y : List Float}
      → w ≡ after.words → l ≡ after.longs → f ≡ after.floats → x ≡ after.contexts → y ≡ after.history
      → state_of (returned st.words 10 (n * 58) w) (returned st.longs 1 (n * 14) l) (take 0 st.floats ++ (f ++ drop (n * 4 - 0) (drop 0 st.floats))) x y
      ≡ put_voices (voice_rows_in revision d n st) st
  voices_back ew el ef ex ey =
      let pw = returned_is st.words 10 (n * 58) h.words (ew ∙ ap (λ (r : VoiceRows). r.words) after_is) voices_long.words in
      let pl = returned_is st.longs 1 (n * 14) h.longs (el ∙ ap (λ (r : VoiceRows). r.longs) after_is) voices_long.longs in
      let ef' = ef ∙ ap (λ (r : VoiceRows). r.floats) after_is in
      let pf = returned_between st.floats 0 (n * 4) refl (sym (zero-add (n * 4))) (rw zero-add h.floats) ef' voices_long.floats in
      let px = ex ∙ ap (λ (r : VoiceRows). r.contexts) after_is in
      let py = ey ∙ ap (λ (r : VoiceRows). r.history) after_is in
      λ i. state_of (pw i) (pl i) (pf i) (px i) (py i)
