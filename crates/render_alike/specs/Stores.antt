-- What is stored in two states that differ at most in sound leaves them so. Assumes nothing.
use Rattle.std.specs.Prelude.{◌≡◌, refl, Bool, true, false, ◌⊎◌, List, ℕ, ◌+◌, ◌*◌, ◌≤◌, ◌<◌, eqb, Float, length}
use Rattle.std.proofs.Common.{ap, sym, subst, ◌∙◌, inl, inr, ⊎_elim, arith, eqb-true}
use Rattle.std.proofs.lemmas.Bool.{eqb-false}
use Rattle.rows.specs.Rows.{part, put, part_put_same}
use Rattle.rows.specs.Folds.{row_end}
use Rattle.params.specs.declared.params.Params.{Params}
use Rattle.state.specs.State.{State}
use Rattle.voice.specs.declared.Voice.{Voice}
use Rattle.voice.specs.declared.sound.Sound.{Sound}
use Rattle.voice_rows.specs.VoiceRow.{words_of, longs_of, floats_of}
use Rattle.sound_rows.specs.SoundRow.{contexts_of, history_of, length_contexts}
use Rattle.state_voices.specs.StateVoices.{voice_on, voice_in, put_voice, put_sound, with_floats, SoundInside}
use Rattle.state_voices.specs.Rows.{put_apart, before_or_after}
use Rattle.alike.specs.Alike.{Alike}

-- ---- row k is put in two lists of rows: row j of the two is the same where it was, and where the rows that are put are

module _ (w j k : ℕ) where
  apart : (j ≡ k → ⊥) → (j * w + w ≤ k * w) ⊎ (k * w + w ≤ j * w)
  apart n =
      ⊎_elim (λ (l : j < k). inl (omega (arith, row_end 0 w j k l))) (λ (l : k < j). inr (omega (arith, row_end 0 w k j l)))
      (before_or_after j k n)

  module _ {ℓ} {A : Type ℓ} (s s' r r' : List A) (wide : length r ≡ w) (wide' : length r' ≡ w) (fits : k * w + w ≤ length s) (fits' : k * w + w ≤ length s')
      (rows : j ≡ k → r ≡ r') (same : part w (j * w) s ≡ part w (j * w) s') where
    by_row : (b : Bool) → eqb j k ≡ b → part w (j * w) (put s (k * w) r) ≡ part w (j * w) (put s' (k * w) r')
    by_row true e =
        let q = eqb-true j k e in
        ap (λ (i : ℕ). part w (i * w) (put s (k * w) r)) q
        ∙ part_put_same s (k * w) r (rw wide fits) w wide
        ∙ rows q
        ∙ sym (part_put_same s' (k * w) r' (rw wide' fits') w wide')
        ∙ ap (λ (i : ℕ). part w (i * w) (put s' (k * w) r')) (sym q)
    by_row false e =
        let n = apart (eqb-false j k e) in
        put_apart s (k * w) w r wide fits w (j * w) n ∙ same ∙ sym (put_apart s' (k * w) w r' wide' fits' w (j * w) n)

    row_same : part w (j * w) (put s (k * w) r) ≡ part w (j * w) (put s' (k * w) r')
    row_same = by_row (eqb j k) refl

-- ---- in two states

-- the rows of voice k's sound are there
abbrev pub SoundRows : ℕ → State → Type 0
SoundRows k st = SoundInside k st.contexts st.history

module _ {p : Params} {P : ℕ → Type 0} {a b : State} (e : Alike p P a b) where
  -- each voice is the same in both
  pub voice_alike : (j : ℕ) → voice_in j a ≡ voice_in j b
  voice_alike j = λ i. voice_on j (e.words i) (e.longs i) (e.floats i)

  pub put_voice_alike : (k : ℕ) (v : Voice) → Alike p P (put_voice k v a) (put_voice k v b)
  put_voice_alike k v = record {
    words = ap (λ (x : List ℕ). put x (10 + k * 58) (words_of v)) e.words;
    longs = ap (λ (x : List ℕ). put x (1 + k * 14) (longs_of v)) e.longs;
    floats = ap (λ (x : List Float). put x (k * 4) (floats_of v)) e.floats;
    contexts = e.contexts;
    history = e.history;
  }

  pub with_floats_alike : {f f' : List Float} → f ≡ f' → Alike p P (with_floats f a) (with_floats f' b)
  with_floats_alike q = record { words = e.words; longs = e.longs; floats = q; contexts = e.contexts; history = e.history }

  -- sounds of voice k that are the same if it is one of P
  module _ {k : ℕ} (i : SoundRows k a) (i' : SoundRows k b) (s s' : Sound) (wide : length (history_of s) ≡ 18) (wide' : length (history_of s') ≡ 18) (sounds : P k → s ≡ s') where
    at_row : {j : ℕ} → P j → j ≡ k → s ≡ s'
    at_row h q = sounds (subst P q h)

    pub put_sound_alike : Alike p P (put_sound k s a) (put_sound k s' b)
    put_sound_alike = record {
      words = e.words;
      longs = e.longs;
      floats = e.floats;
      contexts = λ j l h.
          row_same 3 j k _ _ (contexts_of s) (contexts_of s') (length_contexts s) (length_contexts s') i.contexts i'.contexts (λ q. ap contexts_of (at_row h q))
          (e.contexts j l h);
      history = λ j l h.
          row_same 18 j k _ _ (history_of s) (history_of s') wide wide' i.history i'.history (λ q. ap history_of (at_row h q)) (e.history j l h);
    }
