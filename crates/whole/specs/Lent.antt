-- The rows of a kind as they are lent, `&words[a..b]` by places. Assumes nothing.
use Rattle.std.specs.Prelude.{◌≡◌, refl, List, ℕ, ◌+◌, ◌-◌, ◌*◌, ◌≤◌, Float, length, take, drop}
use Rattle.std.proofs.Common.{ap, arith}
use Rattle.rows.specs.Rows.{length_part}
use Rattle.rows.specs.Lent.{part_between, length_between, part_front}
use Rattle.params.specs.declared.params.Params.{Params}
use Rattle.state.specs.declared.Places.{Places}
use Rattle.state.specs.State.{At, mixes_of, mix_words, sink_words, list_words, words_of, floats_of, voice_words_in, voice_floats_in, mix_words_in, sink_words_in, list_words_in}
use Rattle.row_tests.specs.Voices.{Room, voices_whole}
use Rattle.row_tests.specs.Desk.{mixes_whole, sinks_whole, lists_whole}

module _ {p : Params} {at : Places} (h : At p at) (words : List ℕ) where
  -- ---- the test of what is lent is the test of the rows

  pub voices_lent : (floats : List Float)
      → voices_whole p.voices (take (at.mix_words - 10) (drop 10 words)) (take at.resource_floats floats)
      ≡ voices_whole p.voices (voice_words_in p words) (voice_floats_in p floats)
  voices_lent floats =
      let w = part_between words 10 (p.voices * 58) refl h.mix_words_lem in
      let f = part_front floats (p.voices * 4) h.resource_floats_lem in
      λ j. voices_whole p.voices (w j) (f j)

  pub mixes_lent_lem : mixes_whole at.mixes (take (at.sink_words - at.mix_words) (drop at.mix_words words)) ≡ mixes_whole (mixes_of p) (mix_words_in p words)
  mixes_lent_lem =
      let w = part_between words (mix_words p) (mixes_of p * 5) h.mix_words_lem h.sink_words_lem in
      λ j. mixes_whole (h.mixes j) (w j)

  pub sinks_lent : sinks_whole p.sinks (take (at.list_words - at.sink_words) (drop at.sink_words words)) ≡ sinks_whole p.sinks (sink_words_in p words)
  sinks_lent = ap (sinks_whole p.sinks) (part_between words (sink_words p) (p.sinks * 10) h.sink_words_lem h.list_words_lem)

  pub lists_lent_lem : lists_whole p.splitters p.splitter_destinations (take (at.words - at.list_words) (drop at.list_words words))
      ≡ lists_whole p.splitters p.splitter_destinations (list_words_in p words)
  lists_lent_lem =
      ap (lists_whole p.splitters p.splitter_destinations)
      (part_between words (list_words p) (p.splitters * 129 + p.splitter_destinations * 2) h.list_words_lem h.words)

  -- ---- there is room in it

  module _ (long : length words ≡ words_of p) where
    pub voices_room : p.voices ≤ 64 → (floats : List Float) → length floats ≡ floats_of p
        → Room p.voices (take (at.mix_words - 10) (drop 10 words)) (take at.resource_floats floats)
    voices_room few floats e = record {
      few = few;
      words_long = omega (arith, length_between words 10 (p.voices * 58) refl h.mix_words_lem (omega arith));
      floats_long = rw (part_front floats (p.voices * 4) h.resource_floats_lem) (omega (arith, length_part (p.voices * 4) 0 floats (omega arith)));
    }

    pub mixes_room : at.mixes * 5 ≤ length (take (at.sink_words - at.mix_words) (drop at.mix_words words))
    mixes_room = omega (arith, h.mixes, length_between words (mix_words p) (mixes_of p * 5) h.mix_words_lem h.sink_words_lem (omega arith))

    pub sinks_room : p.sinks * 10 ≤ length (take (at.list_words - at.sink_words) (drop at.sink_words words))
    sinks_room = omega (arith, length_between words (sink_words p) (p.sinks * 10) h.sink_words_lem h.list_words_lem (omega arith))

    pub lists_room : p.splitters * 129 + p.splitter_destinations * 2 ≤ length (take (at.words - at.list_words) (drop at.list_words words))
    lists_room =
        omega (arith, length_between words (list_words p) (p.splitters * 129 + p.splitter_destinations * 2) h.list_words_lem h.words (omega arith))
