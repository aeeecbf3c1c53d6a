-- What the functions write is what the definitions say. Assumes nothing.
use Rattle.std.specs.Prelude.{◌≡◌, Float}
use Rattle.std.proofs.Math.Path.{refl, ap, sym}
use Rattle.std.proofs.Common.{◌∙◌}
use mathlib.Core.List.{List, ◌∷◌}
use Prim.Native.Nat.{ℕ, suc, ◌+◌, ◌*◌, ◌≤◌}
use native.Mathlib.Omega.{arith}
use Rattle.std.proofs.Math.ListN.{length, replicate}
use Rattle.std.proofs.lemmas.List.{length-replicate}
use Rattle.floats.specs.Defs.{zero32}
use Rattle.rows.specs.Rows.{put, put_all}
use Rattle.params.specs.declared.params.Params.{Params}
use Rattle.params.specs.Params.{row_of, length_row}
use Rattle.state.specs.State.{State, Sized, state_of, mixes_of, words_of, longs_of, floats_of}
use Rattle.voice_rows.specs.WaveRow.{longs_of_wave}
use Rattle.voice_rows.specs.VoiceRow as row
use Rattle.opened.specs.Opened.{default_voice, opened_words, opened_longs, opened_floats, opened}
use Rattle.opened.specs.Parts.{voice_words, voice_longs, voice_floats, mix_words, mix_floats, destination_words, desk_words, desk_floats, length_voice_words, length_voice_floats, length_mix_words, length_mix_floats, length_desk_words, length_desk_floats}
use Rattle.opened.specs.Sections.{joined_same}
use Rattle.opened.specs.Writing.{write_begin, write_more, write_last}
use Rattle.opened.specs.Laws.{opened_sized}

-- ---- words

pub desk_words_written : (s : List ℕ) (at mixes sinks splitters destinations : ℕ) {t₁ t₂ t₃ t₄ : List ℕ}
    → at + (mixes * 5 + (sinks * 10 + (splitters * 129 + destinations * 2))) ≤ length s
    → t₁ ≡ put s at (mix_words mixes)
    → t₂ ≡ put t₁ (at + mixes * 5) (replicate (sinks * 10) 0)
    → t₃ ≡ put t₂ (at + mixes * 5 + sinks * 10) (replicate (splitters * 129) 0)
    → t₄ ≡ put t₃ (at + mixes * 5 + sinks * 10 + splitters * 129) (destination_words destinations)
    → t₄ ≡ put s at (desk_words mixes sinks splitters destinations)
desk_words_written s at m k n d fits e₁ e₂ e₃ e₄ =
    let w₀ = write_begin s at (desk_words m k n d) (rw length_desk_words fits) in
    let w₁ = write_more (mix_words m) _ w₀ (length_mix_words m) refl e₁ in
    let w₂ = write_more (replicate (k * 10) 0) _ w₁ (length-replicate (k * 10) 0) refl e₂ in
    let w₃ = write_more (replicate (n * 129) 0) _ w₂ (length-replicate (n * 129) 0) refl e₃ in
    write_last (destination_words d) w₃ refl e₄

module _ (p : Params) where
  pub words_written : (s : List ℕ) {t₁ t₂ t₃ : List ℕ} → length s ≡ words_of p
      → t₁ ≡ put s 0 (row_of p)
      → t₂ ≡ put t₁ 10 (voice_words p.voices)
      → t₃ ≡ put t₂ (10 + p.voices * 58) (desk_words (mixes_of p) p.sinks p.splitters p.splitter_destinations)
      → t₃ ≡ opened_words p
  unfolding opened_words opened
  words_written s l e₁ e₂ e₃ =
      let size : length (opened_words p) ≡ length s = (opened_sized p).words ∙ sym l in
      let w₀ = write_begin s 0 (opened_words p) (omega arith) in
      let w₁ = write_more (row_of p) _ w₀ (length_row p) refl e₁ in
      let w₂ = write_more (voice_words p.voices) _ w₁ (length_voice_words p.voices) refl e₂ in
      write_last (desk_words (mixes_of p) p.sinks p.splitters p.splitter_destinations) w₂ refl e₃ ∙ put_all s (opened_words p) size

-- ---- floats

pub desk_floats_written : (s : List Float) (at mixes sinks destinations : ℕ) {t₁ t₂ t₃ : List Float}
    → at + (mixes * 577 + (sinks * 4 + destinations * 48)) ≤ length s
    → t₁ ≡ put s at (mix_floats mixes)
    → t₂ ≡ put t₁ (at + mixes * 577) (replicate (sinks * 4) zero32)
    → t₃ ≡ put t₂ (at + mixes * 577 + sinks * 4) (replicate (destinations * 48) zero32)
    → t₃ ≡ put s at (desk_floats mixes sinks destinations)
desk_floats_written s at m k d fits e₁ e₂ e₃ =
    let w₀ = write_begin s at (desk_floats m k d) (rw length_desk_floats fits) in
    let w₁ = write_more (mix_floats m) _ w₀ (length_mix_floats m) refl e₁ in
    let w₂ = write_more (replicate (k * 4) zero32) _ w₁ (length-replicate (k * 4) zero32) refl e₂ in
    write_last (replicate (d * 48) zero32) w₂ refl e₃

-- a whole list of zeros
zeros_whole : {A : Type 0} (s : List A) (x : A) (n : ℕ) {t : List A} → length s ≡ n → t ≡ put s 0 (replicate (length s) x) → t ≡ replicate n x
zeros_whole s x n l e = e ∙ put_all s (replicate (length s) x) (length-replicate (length s) x) ∙ ap (λ (k : ℕ). replicate k x) l

-- the longs and the floats of a default voice are zeros
voice_longs_zero : (n : ℕ) → voice_longs n ≡ replicate (n * 14) 0
unfolding row.longs_of row.top_of longs_of_wave default_voice
voice_longs_zero n = joined_same 14 n 0

voice_floats_zero : (n : ℕ) → voice_floats n ≡ replicate (n * 4) zero32
unfolding row.floats_of default_voice
voice_floats_zero n = joined_same 4 n zero32

module _ (p : Params) where
  pub floats_written : (s : List Float) {t₁ t₂ t₃ : List Float} → length s ≡ floats_of p
      → t₁ ≡ put s 0 (replicate (p.voices * 4) zero32)
      → t₂ ≡ put t₁ (p.voices * 4) (replicate (p.voices * 48) zero32)
      → t₃ ≡ put t₂ (p.voices * 4 + p.voices * 48) (desk_floats (mixes_of p) p.sinks p.splitter_destinations)
      → t₃ ≡ opened_floats p
  unfolding opened_floats opened
  floats_written s l e₁ e₂ e₃ =
      let r = p.voices * 48 in
      let size : length (opened_floats p) ≡ length s = (opened_sized p).floats ∙ sym l in
      let w₀ = write_begin s 0 (opened_floats p) (omega arith) in
      let w₁ = write_more (voice_floats p.voices) _ w₀ (length_voice_floats p.voices) refl (e₁ ∙ ap (put s 0) (sym (voice_floats_zero p.voices))) in
      let w₂ = write_more (replicate r zero32) _ w₁ (length-replicate r zero32) (omega arith) e₂ in
      write_last (desk_floats (mixes_of p) p.sinks p.splitter_destinations) w₂ (omega arith) e₃ ∙ put_all s (opened_floats p) size

  -- ---- the state

  longs_zero : opened_longs p ≡ replicate (longs_of p) 0
  unfolding opened_longs
  longs_zero =
      let e : suc (p.voices * 14) ≡ longs_of p = omega arith in
      ap (λ (r : List ℕ). 0 ∷ r) (voice_longs_zero p.voices) ∙ ap (λ (k : ℕ). replicate k 0) e

  pub state_written : (st : State) → Sized p st → {w l x : List ℕ} {f h : List Float}
      → w ≡ opened_words p
      → l ≡ put st.longs 0 (replicate (length st.longs) 0)
      → f ≡ opened_floats p
      → x ≡ put st.contexts 0 (replicate (length st.contexts) 0)
      → h ≡ put st.history 0 (replicate (length st.history) zero32)
      → state_of w l f x h ≡ opened p
  unfolding opened
  state_written st z ew el ef ex eh =
      let l = zeros_whole st.longs 0 (longs_of p) z.longs el ∙ sym longs_zero in
      let x = zeros_whole st.contexts 0 (p.voices * 3) z.contexts ex in
      let h = zeros_whole st.history zero32 (p.voices * 18) z.history eh in
      λ i. state_of (ew i) (l i) (ef i) (x i) (h i)
