-- The state that an open makes: its parameters, its lengths, and its rows of each kind; every voice is the default. Assumes nothing.
use Rattle.std.specs.Prelude.{◌≡◌, ℕ, ◌+◌, ◌*◌, ◌<◌, replicate}
use Rattle.std.proofs.Math.Path.{refl, sym}
use Rattle.std.proofs.Common.{◌∙◌, arith}
use mathlib.Core.List.{[], ◌∷◌, ◌++◌, append-nil}
use Rattle.std.proofs.Math.ListN.{length-append, length-replicate}
use Rattle.floats.specs.Defs.{zero32}
use Rattle.rows.specs.Rows.{part}
use Rattle.params.specs.declared.params.Params.{Params}
use Rattle.params.specs.Params.{row_of, length_row, params_row}
use Rattle.state.specs.State.{Sized, mixes_of, params_in, voice_words_in, voice_floats_in, mix_words_in, sink_words_in, list_words_in}
use Rattle.voice_rows.specs.VoiceRow.{voice_of, words_of, longs_of, floats_of, length_words, length_longs, length_floats}
use Rattle.sound_rows.specs.Spelled.{part_whole}
use Rattle.row_trips.specs.Trip.{Shaped, voice_again}
use Rattle.state_voices.specs.StateVoices.{voice_on, voice_in}
use Rattle.opened.specs.Opened.{default_voice, opened_words, opened_longs, opened_floats, opened}
use Rattle.opened.specs.Parts.{voice_words, voice_longs, voice_floats, mix_words, list_words, desk_words, length_voice_words, length_voice_longs, length_voice_floats, length_mix_words, length_desk_words, length_desk_floats, length_destination_words}
use Rattle.opened.specs.Sections.{part_behind, part_front, part_joined, part_rows}

default_shaped : Shaped default_voice
unfolding default_voice
default_shaped = record { ids = refl; buffers = refl; valid = refl }

module _ (p : Params) where
  pub opened_params : params_in (opened p) ≡ p
  unfolding opened opened_words
  opened_params = params_row p _

  pub opened_sized : Sized p (opened p)
  unfolding opened opened_words opened_longs opened_floats
  opened_sized = record {
    words = rw (length-append, length-append, length_row, length_voice_words, length_desk_words (mixes_of p)) (omega arith);
    longs = omega (arith, length_voice_longs p.voices);
    floats = rw (length-append, length-append, length_voice_floats, length-replicate, length_desk_floats (mixes_of p)) (omega arith);
    contexts = length-replicate (p.voices * 3) 0;
    history = length-replicate (p.voices * 18) zero32;
  }

  -- ---- the rows of each kind

  pub voice_words_in_lem : voice_words_in p (opened_words p) ≡ voice_words p.voices
  unfolding opened_words
  voice_words_in_lem =
      let w = p.voices * 58 in
      part_behind (row_of p) _ w 0 (length_row p) refl ∙ part_front (voice_words p.voices) _ w (length_voice_words p.voices)

  pub voice_floats_in_lem : voice_floats_in p (opened_floats p) ≡ voice_floats p.voices
  unfolding opened_floats
  voice_floats_in_lem = part_front (voice_floats p.voices) _ (p.voices * 4) (length_voice_floats p.voices)

  -- behind the voices' words
  in_desk : (w to : ℕ) {at : ℕ} → at ≡ 10 + p.voices * 58 + to
      → part w at (opened_words p) ≡ part w to (desk_words (mixes_of p) p.sinks p.splitters p.splitter_destinations)
  unfolding opened_words
  in_desk w to e =
      part_behind (row_of p) _ w (p.voices * 58 + to) (length_row p) (omega arith)
      ∙ part_behind (voice_words p.voices) _ w to (length_voice_words p.voices) refl

  pub mix_words_in_lem : mix_words_in p (opened_words p) ≡ mix_words (mixes_of p)
  mix_words_in_lem =
      let w = mixes_of p * 5 in
      in_desk w 0 (omega arith) ∙ part_front (mix_words (mixes_of p)) _ w (length_mix_words (mixes_of p))

  -- behind the mixes' words
  behind_mixes : (w to : ℕ) {at : ℕ} → at ≡ 10 + p.voices * 58 + mixes_of p * 5 + to
      → part w at (opened_words p) ≡ part w to (replicate (p.sinks * 10) 0 ++ list_words p.splitters p.splitter_destinations)
  behind_mixes w to e = in_desk w (mixes_of p * 5 + to) (omega arith) ∙ part_behind (mix_words (mixes_of p)) _ w to (length_mix_words (mixes_of p)) refl

  pub sink_words_in_lem : sink_words_in p (opened_words p) ≡ replicate (p.sinks * 10) 0
  sink_words_in_lem =
      let w = p.sinks * 10 in
      behind_mixes w 0 (omega arith) ∙ part_front (replicate w 0) _ w (length-replicate w 0)

  pub list_words_in_lem : list_words_in p (opened_words p) ≡ list_words p.splitters p.splitter_destinations
  list_words_in_lem =
      let w = p.splitters * 129 + p.splitter_destinations * 2 in
      let s = p.sinks * 10 in
      behind_mixes w s refl
      ∙ part_behind (replicate s 0) _ w 0 (length-replicate s 0) (omega arith)
      ∙ part_whole w (list_words p.splitters p.splitter_destinations) (simp (length-append, length-replicate, length_destination_words))

  -- every voice is the default
  pub opened_idle : (k : ℕ) → k < p.voices → voice_in k (opened p) ≡ default_voice
  unfolding opened opened_words opened_longs opened_floats voice_on
  opened_idle k h =
      let v = default_voice in
      let n = p.voices in
      let w = part_behind (row_of p) _ 58 (k * 58) (length_row p) refl ∙ part_rows 58 n (λ _. words_of v) (λ _. length_words v) k h _ in
      let l = part_behind (0 ∷ []) (voice_longs n) 14 (k * 14) refl refl ∙ part_joined 14 n (λ _. longs_of v) (λ _. length_longs v) k h in
      let f = part_rows 4 n (λ _. floats_of v) (λ _. length_floats v) k h _ in
      (λ i. voice_of ((w ∙ sym (append-nil (words_of v))) i) ((l ∙ sym (append-nil (longs_of v))) i) ((f ∙ sym (append-nil (floats_of v))) i))
      ∙ voice_again v default_shaped [] [] []
