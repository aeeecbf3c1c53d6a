-- A voice can be heard after an update with at least one byte where the input routes it, and nowhere else; after one without, where it
-- could be heard before. Assumes nothing.
use Rattle.std.specs.Prelude.{◌≡◌, refl, Bool, true, false, ◌&&◌, ◌⊎◌, ℕ, ◌+◌, ◌*◌, ◌≤◌, ◌<◌, T, Float}
use Rattle.std.proofs.Math.Path.{ap}
use Rattle.std.proofs.Common.{◌∙◌, subst, inl, inr, arith}
use mathlib.Core.List.{List, [], ◌∷◌}
use Rattle.std.proofs.Math.ListN.{length}
use Rattle.rows.specs.Rows.{part, length_part, length_put}
use Rattle.rows.specs.Folds.{up_to}
use Rattle.params.specs.declared.params.Params.{Params}
use Rattle.params.specs.declared.sections.Sections.{Sections}
use Rattle.params.specs.Sections.{sections_of, voices_section}
use Rattle.params.specs.Sizes.{Allowed, revision_of}
use Rattle.state.specs.State.{State, Sized, mix_words, sink_words, list_words}
use Rattle.voice.specs.declared.Voice.{Voice}
use Rattle.voice.specs.Voice.{has_destination}
use Rattle.voice_rows.specs.VoiceRow.{voice_of, words_of, head_of}
use Rattle.voice_records.specs.Record.{record_used, filled, recorded}
use Rattle.voices.specs.Voices.{VoiceRows, voice_record, voice_step, voices_of}
use Rattle.voices.specs.RowLaws.{done_zero, length_zero}
use Rattle.voices.specs.Own.{words_row_by, step_voice, words_row, words_step}
use Rattle.updates.specs.Update.{Desk, with_lists, with_mixes, with_sinks, after_desk}
use Rattle.updates.specs.Update.{with_resources, voice_rows_in, with_voices, after_voices, changed, updated}
use Rattle.state_voices.specs.StateVoices.{voice_on, voice_in}
use Rattle.row_trips.specs.Marks.{flag_again}
use Rattle.alike.specs.Alike.{live}
use Rattle.update_alike.specs.Found.{rows_before}
use Rattle.update_alike.specs.Routes.{routes}
use Rattle.update_alike.specs.Rows.{row_among, puts_behind}

-- ---- the row that an update leaves

-- a voice that is only marked as not in use
unused_live : (row l : List ℕ) (f : List Float) (v : Voice) → live (voice_of (words_row_by false v row) l f) ≡ false
unfolding live voice_of part
unused_live [] l f v = refl
unused_live (x ∷ row) l f v = refl

-- by whether its record is in use, with v the voice as recorded
row_live : (used : Bool) (v : Voice) (row l : List ℕ) (f : List Float) → live (voice_of (words_row_by used v row) l f) ≡ (used && live v)
unfolding live voice_of words_of head_of part
row_live true v row l f = ap (λ (u : Bool). u && has_destination v.mix_id v.splitter_id) (flag_again v.in_use)
row_live false v row l f = unused_live row l f v

-- ---- where it stands in the state

-- the splitters, mixes and sinks leave the words that stand before theirs
desk_row : (p : Params) (s : Sections) (input : List ℕ) (k : Desk) (w b : ℕ) → b + w ≤ mix_words p → b + w ≤ length k.words
    → part w b (after_desk p s input k).words ≡ part w b k.words
unfolding after_desk with_sinks with_mixes with_lists
desk_row p s input k w b h l =
    puts_behind w b k.words (list_words p) (mix_words p) (sink_words p) _ _ _ (omega arith) h (omega arith) l

module _ (p : Params) (input : List ℕ) {st : State} (z : Sized p st) (k : ℕ) (h : k < p.voices) where
  -- the voices' rows after m steps
  abbrev after : ℕ → VoiceRows
  after m = up_to (voice_step (revision_of p) p.voices (voices_section input)) m (rows_before p input st)

  -- the words of voice k after the update are those that step k put
  pub words_row_lem : part 58 (10 + k * 58) (changed p input st).words ≡ words_row (revision_of p) p.voices (voices_section input) k (after k)
  unfolding changed after_voices with_voices with_resources voice_rows_in voices_of
  words_row_lem =
      let n = p.voices in
      let r = words_step (revision_of p) n (voices_section input) in
      let found : length (rows_before p input st).words ≡ n * 58 = length_part (n * 58) 10 st.words (omega (arith, z.words)) in
      let rows = length_zero r n (rows_before p input st) found n (omega arith) in
      let all = length_put st.words 10 (after n).words (omega (arith, rows, z.words)) in
      desk_row p (sections_of input) input _ 58 (10 + k * 58) (omega arith) (omega (arith, all, z.words))
      ∙ row_among st.words 10 (after n).words 58 (k * 58) (omega (arith, rows)) (omega (arith, z.words))
      ∙ done_zero r n (rows_before p input st) found k h

  -- its longs and floats have no part in it
  pub changed_live : live (voice_in k (changed p input st)) ≡ routes p input k
  unfolding voice_on words_row recorded filled live routes
  changed_live =
      let v = step_voice (revision_of p) p.voices (voices_section input) k (after k) in
      let l = part 14 (1 + k * 14) (changed p input st).longs in
      let f = part 4 (k * 4) (changed p input st).floats in
      ap (λ (row : List ℕ). live (voice_of row l f)) words_row_lem ∙ row_live (record_used (voice_record input k)) v _ l f

-- one that can be heard after an update could be heard before it, or is routed by it
pub update_live : (p : Params) → Allowed p → (input : List ℕ) {st : State} → Sized p st → (k : ℕ) → k < p.voices
    → T (live (voice_in k (updated p input st))) → T (live (voice_in k st)) ⊎ T (routes p input k)
unfolding updated
update_live p _ [] z k h t = inl t
update_live p _ (b ∷ bs) z k h t = inr (subst T (changed_live p (b ∷ bs) z k h) t)
