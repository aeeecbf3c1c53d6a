-- The state that an open makes is whole. Assumes nothing.
use Rattle.std.specs.Prelude.{◌≡◌, refl, List, ℕ, ◌+◌, ◌*◌, ◌≤◌, ◌<◌, T, Float, length, get_or, set, replicate}
use Rattle.std.proofs.Common.{ap, sym, subst, ◌∙◌, add-zero, arith, get_or-set_other, get_or-append-add}
use Rattle.std.specs.Float.Ieee.{nan, le, lt, eq}
use Rattle.std.proofs.lemmas.List.{length-replicate}
use Rattle.std.proofs.Math.ListN.{get_or-append}
use Rattle.floats.specs.Defs.{zero32}
use Rattle.floats.specs.Unit.{in_unit}
use Rattle.params.specs.declared.params.Params.{Params}
use Rattle.params.specs.Params.{params_of, row_of}
use Rattle.params.specs.Sizes.{Allowed}
use Rattle.desk_rows.specs.DeskRows.{mix_buffers, list_length}
use Rattle.state.specs.State.{mixes_of}
use Rattle.voice_rows.specs.VoiceRow.{words_of, floats_of, length_words, length_floats}
use Rattle.row_tests.specs.Tests.{sum_below}
use Rattle.row_tests.specs.Voices.{VoiceWhole}
use Rattle.row_tests.specs.Desk.{MixWhole, SinkWhole, buffers_before}
use Rattle.whole.specs.Whole.{Whole, whole_made}
use Rattle.opened.specs.Opened.{default_voice, mix_row, destination_row, opened_words, opened}
use Rattle.opened.specs.Parts.{voice_words, voice_floats, mix_words, destination_words, list_words, default_words}
use Rattle.opened.specs.Sections.{get_d_joined, get_d_same}
use Rattle.opened.specs.Laws.{opened_sized, voice_words_in_lem, voice_floats_in_lem, mix_words_in_lem, sink_words_in_lem, list_words_in_lem}

zero_in : T (in_unit zero32)
unfolding le lt eq
zero_in = tt

-- ---- voice i of n

module _ (n i : ℕ) (h : i < n) where
  voice_word : (j : ℕ) → j < 58 → get_or (voice_words n) (i * 58 + j) 0 ≡ get_or (set (replicate 58 0) 2 1) j 0
  voice_word j l =
      get_d_joined 58 n (λ _. words_of default_voice) (λ _. length_words default_voice) i j 0 h l
      ∙ ap (λ (r : List ℕ). get_or r j 0) (sym default_words)

  -- a word but the play mark
  other_word : (j at : ℕ) → j < 58 → (j ≡ 2 → ⊥) → at ≡ i * 58 + j → get_or (voice_words n) at 0 ≡ 0
  other_word j at l ne e =
      ap (λ (k : ℕ). get_or (voice_words n) k 0) e
      ∙ voice_word j l
      ∙ get_or-set_other (replicate 58 0) 2 j 1 0 ne
      ∙ get_d_same 58 j 0

  field : (j : ℕ) → j < 58 → (j ≡ 2 → ⊥) → get_or (voice_words n) (i * 58 + j) 0 ≡ 0
  field j l ne = other_word j _ l ne refl

  wave_field : (b j : ℕ) → b < 4 → j < 8 → get_or (voice_words n) (i * 58 + 26 + b * 8 + j) 0 ≡ 0
  wave_field b j l m = other_word (26 + b * 8 + j) _ (omega arith) (λ e. omega arith) (omega arith)

  fraction_zero : get_or (voice_floats n) (i * 4 + 3) nan ≡ zero32
  unfolding floats_of default_voice
  fraction_zero = get_d_joined 4 n (λ _. floats_of default_voice) (λ _. length_floats default_voice) i 3 nan h (omega arith)

  voice_whole_lem : VoiceWhole n (voice_words n) (voice_floats n) i
  voice_whole_lem =
      let used = other_word 0 (i * 58) (omega arith) (λ e. omega arith) (omega arith) in
      record {
        used = omega (arith, used);
        fresh = omega (arith, field 1 (omega arith) (λ e. omega arith));
        play = omega (arith, voice_word 2 (omega arith));
        channels = omega (arith, field 5 (omega arith) (λ e. omega arith));
        some_channel_lem = λ ne. absurd (ne used);
        base_index = omega (arith, field 7 (omega arith) (λ e. omega arith));
        ids = λ k l. omega (arith, other_word (12 + k) (i * 58 + 12 + k) (omega arith) (λ e. omega arith) (omega arith));
        valid = λ k l. omega (arith, other_word (18 + k) (i * 58 + 18 + k) (omega arith) (λ e. omega arith) (omega arith));
        index = omega (arith, field 22 (omega arith) (λ e. omega arith));
        looping = λ b l. omega (arith, wave_field b 2 l (omega arith));
        end_of_stream = λ b l. omega (arith, wave_field b 3 l (omega arith));
        pending = λ b l. omega (arith, wave_field b 7 l (omega arith));
        fraction = subst (λ (x : Float). T (in_unit x)) (sym fraction_zero) zero_in;
      }

-- ---- mix m of n

mix_word : (n m j at : ℕ) → m < n → j < 5 → at ≡ m * 5 + j → get_or (mix_words n) at 0 ≡ get_or mix_row j 0
mix_word n m j at h l e = ap (λ (k : ℕ). get_or (mix_words n) k 0) e ∙ get_d_joined 5 n (λ _. mix_row) (λ _. refl) m j 0 h l

mix_whole_lem : (n m : ℕ) → m < n → MixWhole (mix_words n) m
mix_whole_lem n m h =
    let buffers : (k : ℕ) → k < n → mix_buffers (mix_words n) k ≤ 0 = λ k l. omega (arith, mix_word n k 1 (k * 5 + 1) l (omega arith) refl) in
    let before : buffers_before (mix_words n) m ≤ m * 0 = sum_below (mix_buffers (mix_words n)) 0 m (λ k l. buffers k (omega arith)) in
    let none : buffers_before (mix_words n) m ≡ 0 = omega arith in
    record {
      used = omega (arith, mix_word n m 0 (m * 5) h (omega arith) (omega arith));
      buffers = omega (arith, buffers m h);
      offset = mix_word n m 4 (m * 5 + 4) h (omega arith) refl ∙ sym none;
    }

-- ---- sinks, and splitter s of ns and destination d of nd

sink_whole : (n k : ℕ) → SinkWhole (replicate {A = ℕ} n 0) k
sink_whole n k =
    let z : (i : ℕ) → get_or (replicate {A = ℕ} n 0) i 0 ≡ 0 = λ i. get_d_same n i 0 in
    record { used = omega (arith, z (k * 10)); device = omega (arith, z (k * 10 + 1)); inputs = omega (arith, z (k * 10 + 2)); given = omega (arith, z (k * 10 + 9)) }

list_empty : (ns nd s : ℕ) → s < ns → list_length (list_words ns nd) s ≡ 0
list_empty ns nd s h =
    let inside : s * 129 < length (replicate {A = ℕ} (ns * 129) 0) = rw length-replicate (omega arith) in
    get_or-append (replicate (ns * 129) 0) (destination_words nd) 0 (s * 129) inside ∙ get_d_same (ns * 129) (s * 129) 0

destination_unused : (ns nd d : ℕ) → d < nd → get_or (list_words ns nd) (ns * 129 + d * 2) 0 ≡ 0
destination_unused ns nd d h =
    ap (λ (k : ℕ). get_or (list_words ns nd) (k + d * 2) 0) (sym (length-replicate (ns * 129) 0))
    ∙ get_or-append-add (replicate (ns * 129) 0) (destination_words nd) (d * 2) 0
    ∙ ap (λ (k : ℕ). get_or (destination_words nd) k 0) (sym (add-zero (d * 2)))
    ∙ get_d_joined 2 nd (λ _. destination_row) (λ _. refl) d 0 0 h (omega arith)

-- ---- the state

pub opened_whole : (p : Params) → Allowed p → Whole (opened p)
unfolding opened opened_words params_of row_of
opened_whole p a =
    whole_made (opened p) (omega (arith, (opened_sized p).words)) a (opened_sized p)
    (λ i h. rw (voice_words_in_lem p, voice_floats_in_lem p) (voice_whole_lem p.voices i h))
    (λ m h. rw (mix_words_in_lem p) (mix_whole_lem (mixes_of p) m h))
    (λ k h. rw (sink_words_in_lem p) (sink_whole (p.sinks * 10) k))
    (λ s h. rw (list_words_in_lem p) (omega (arith, list_empty p.splitters p.splitter_destinations s h)))
    (λ d h. rw (list_words_in_lem p) (omega (arith, destination_unused p.splitters p.splitter_destinations d h)))
