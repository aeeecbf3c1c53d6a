-- The updates of channel resources and voices leave the rows of every kind whole. Assumes nothing.
use Rattle.std.specs.Prelude.{◌≡◌, List, ℕ, ◌+◌, ◌*◌, ◌≤◌}
use Rattle.std.proofs.Common.{◌∙◌, arith}
use Rattle.std.proofs.Math.ListN.{length}
use Rattle.rows.specs.Rows.{put, length_part}
use Rattle.params.specs.declared.params.Params.{Params}
use Rattle.params.specs.Sizes.{revision_of}
use Rattle.state.specs.State.{State, Sized, mixes_of, mix_words, sink_words, list_words, resource_floats, voice_words_in, voice_longs_in, voice_floats_in, mix_words_in, sink_words_in, list_words_in}
use Rattle.desk_updates.specs.DeskUpdate.{resources_at}
use Rattle.desk_updates.specs.Laws.{length_resources}
use Rattle.voices.specs.Voices.{VoiceRows, VoicesSized, rows_of}
use Rattle.voices.specs.Own.{voices_sized}
use Rattle.updates.specs.Update.{with_resources, voice_rows_in, with_voices}
use Rattle.update_keeps.specs.Voices.{voice_kept}
use Rattle.whole_rows.specs.Rows.{RowsWhole}
use Rattle.update_keeps.specs.Puts.{put_long, put_same, put_before, put_after, put_params}

module _ (p : Params) (d : List ℕ) (st : State) (h : RowsWhole p st.words st.floats) where
  pub resources_rows : RowsWhole p (with_resources p d st).words (with_resources p d st).floats
  unfolding with_resources
  resources_rows =
      let at = resource_floats p in
      let r = resources_at d p.voices at st.floats in
      let room : at + p.voices * 48 ≤ length st.floats = omega (arith, h.floats_long) in
      let long = length_resources d p.voices at st.floats room in
      let voices : voice_floats_in p (put st.floats at r) ≡ voice_floats_in p st.floats =
      put_before st.floats at (p.voices * 48) r long room (p.voices * 4) 0 (omega arith) in
      record {
        params = h.params;
        allowed = h.allowed;
        words_long = h.words_long;
        floats_long = put_long st.floats at (p.voices * 48) r long room ∙ h.floats_long;
        voices = rw voices h.voices;
        mixes = h.mixes;
        sinks = h.sinks;
        lengths = h.lengths;
        flags = h.flags;
      }

  module _ (s : Sized p st) where
    abbrev old : VoiceRows
    old = rows_of (voice_words_in p st.words) (voice_longs_in p st.longs) (voice_floats_in p st.floats) st.contexts st.history

    old_sized : VoicesSized p.voices old
    old_sized = record {
      few = h.allowed.voices;
      words = length_part (p.voices * 58) 10 st.words (omega (arith, s.words));
      longs = length_part (p.voices * 14) 1 st.longs (omega (arith, s.longs));
      floats = length_part (p.voices * 4) 0 st.floats (omega (arith, s.floats));
      contexts = s.contexts;
      history = s.history;
    }

    pub voices_rows : RowsWhole p (with_voices p d st).words (with_voices p d st).floats
    unfolding with_voices voice_rows_in
    voices_rows =
        let n = p.voices in
        let r = voice_rows_in (revision_of p) d n st in
        let sized = voices_sized (revision_of p) n d old old_sized in
        let room : 10 + n * 58 ≤ length st.words = omega (arith, s.words) in
        let room_f : 0 + n * 4 ≤ length st.floats = omega (arith, s.floats) in
        let words = put_same st.words 10 (n * 58) r.words sized.words room in
        let floats = put_same st.floats 0 (n * 4) r.floats sized.floats room_f in
        let behind = put_after st.words 10 (n * 58) r.words sized.words room in
        let mixes : mix_words_in p (put st.words 10 r.words) ≡ mix_words_in p st.words = behind (mixes_of p * 5) (mix_words p) (omega arith) in
        let sinks : sink_words_in p (put st.words 10 r.words) ≡ sink_words_in p st.words = behind (p.sinks * 10) (sink_words p) (omega arith) in
        let lists : list_words_in p (put st.words 10 r.words) ≡ list_words_in p st.words =
        behind (p.splitters * 129 + p.splitter_destinations * 2) (list_words p) (omega arith) in
        record {
          params = put_params st.words 10 (n * 58) r.words sized.words room (omega arith) ∙ h.params;
          allowed = h.allowed;
          words_long = put_long st.words 10 (n * 58) r.words sized.words room ∙ h.words_long;
          floats_long = put_long st.floats 0 (n * 4) r.floats sized.floats room_f ∙ h.floats_long;
          voices = λ i l. rw (words, floats) (voice_kept (revision_of p) n d old old_sized i l (h.voices i l));
          mixes = rw mixes h.mixes;
          sinks = rw sinks h.sinks;
          lengths = rw lists h.lengths;
          flags = rw lists h.flags;
        }
