-- The updates of splitters, mixes and sinks leave the rows of every kind whole. Assumes nothing.
use Rattle.std.specs.Prelude.{◌≡◌, List, ℕ, ◌+◌, ◌*◌, ◌≤◌, ◌<◌, Float}
use Rattle.std.proofs.Common.{◌∙◌, arith}
use Rattle.std.proofs.Math.ListN.{length}
use Rattle.rows.specs.Rows.{put, length_part}
use Rattle.params.specs.declared.params.Params.{Params}
use Rattle.params.specs.Sizes.{revision_of}
use Rattle.state.specs.State.{mixes_of, mix_words, sink_words, list_words, mix_floats, sink_floats, destination_floats, voice_words_in, voice_floats_in, mix_words_in, mix_floats_in, sink_words_in, sink_floats_in, list_words_in, destination_floats_in}
use Rattle.desk.specs.Sinks.{SinksSized, sink_rows}
use Rattle.desk.specs.SinkLaws.{sinks_sized}
use Rattle.desk_mixes.specs.Mixes.{MixesSized, mix_rows}
use Rattle.desk_mixes.specs.MixLaws.{mixes_sized}
use Rattle.splitters.specs.Section.{Sized}
use Rattle.splitters.specs.Laws.{ListsFit, FlagsFit, sized_kept, lists_kept, flags_kept}
use Rattle.row_tests.specs.Desk.{MixWhole, SinkWhole}
use Rattle.updates.specs.Update.{Desk, lists_in, with_lists, mixes_in, with_mixes, sinks_in, with_sinks}
use Rattle.update_keeps.specs.Desk.{mixes_kept, sinks_kept}
use Rattle.whole_rows.specs.Rows.{RowsWhole}
use Rattle.update_keeps.specs.Puts.{put_long, put_same, put_before, put_after, put_params}

-- ---- rows put behind those of the voices and resources

module _ (p : Params) (k : Desk) (h : RowsWhole p k.words k.floats) (a w : ℕ) (r : List ℕ) (long : length r ≡ w) (room : a + w ≤ length k.words)
    (c v : ℕ) (q : List Float) (long_f : length q ≡ v) (room_f : c + v ≤ length k.floats) (behind : mix_words p ≤ a) (behind_f : mix_floats p ≤ c) where
  -- what is left to show
  desk_rows : ((m : ℕ) → m < mixes_of p → MixWhole (mix_words_in p (put k.words a r)) m)
      → ((j : ℕ) → j < p.sinks → SinkWhole (sink_words_in p (put k.words a r)) j)
      → ListsFit p.splitters p.splitter_destinations (list_words_in p (put k.words a r))
      → FlagsFit p.splitters p.splitter_destinations (list_words_in p (put k.words a r))
      → RowsWhole p (put k.words a r) (put k.floats c q)
  desk_rows mixes sinks lengths flags =
      let words : voice_words_in p (put k.words a r) ≡ voice_words_in p k.words = put_before k.words a w r long room (p.voices * 58) 10 behind in
      let floats : voice_floats_in p (put k.floats c q) ≡ voice_floats_in p k.floats =
      put_before k.floats c v q long_f room_f (p.voices * 4) 0 (omega (arith, behind_f)) in
      record {
        params = put_params k.words a w r long room (omega (arith, behind)) ∙ h.params;
        allowed = h.allowed;
        words_long = put_long k.words a w r long room ∙ h.words_long;
        floats_long = put_long k.floats c v q long_f room_f ∙ h.floats_long;
        voices = rw (words, floats) h.voices;
        mixes = mixes;
        sinks = sinks;
        lengths = lengths;
        flags = flags;
      }

module _ (p : Params) (d : List ℕ) (k : Desk) (h : RowsWhole p k.words k.floats) where
  -- ---- splitters and destinations

  abbrev lists_wide : ℕ
  lists_wide = p.splitters * 129 + p.splitter_destinations * 2

  old_lists : Sized p.splitters p.splitter_destinations (list_words_in p k.words) (destination_floats_in p k.floats)
  old_lists = record {
    splitters = h.allowed.splitters;
    destinations = h.allowed.destinations;
    words_long = length_part lists_wide (list_words p) k.words (omega (arith, h.words_long));
    floats_long = length_part (p.splitter_destinations * 48) (destination_floats p) k.floats (omega (arith, h.floats_long));
  }

  pub lists_rows : RowsWhole p (with_lists p d k).words (with_lists p d k).floats
  unfolding with_lists
  lists_rows =
      let ns = p.splitters in
      let nd = p.splitter_destinations in
      let a = list_words p in
      let r = (lists_in p d k).words in
      let l = sized_kept ns nd d (list_words_in p k.words) (destination_floats_in p k.floats) old_lists in
      let room : a + lists_wide ≤ length k.words = omega (arith, h.words_long) in
      let before = put_before k.words a lists_wide r l.words_long room in
      let mixes : mix_words_in p (put k.words a r) ≡ mix_words_in p k.words = before (mixes_of p * 5) (mix_words p) (omega arith) in
      let sinks : sink_words_in p (put k.words a r) ≡ sink_words_in p k.words = before (p.sinks * 10) (sink_words p) (omega arith) in
      let same = put_same k.words a lists_wide r l.words_long room in
      desk_rows p k h a lists_wide r l.words_long room (destination_floats p) (nd * 48) (lists_in p d k).floats l.floats_long (omega (arith, h.floats_long))
      (omega arith) (omega arith) (rw mixes h.mixes) (rw sinks h.sinks)
      (rw same (lists_kept ns nd d (list_words_in p k.words) (destination_floats_in p k.floats) old_lists h.lengths))
      (rw same (flags_kept ns nd d (list_words_in p k.words) (destination_floats_in p k.floats) old_lists h.flags))

  -- ---- mixes

  old_mixes : MixesSized (mixes_of p) (mix_words_in p k.words) (mix_floats_in p k.floats)
  old_mixes = record {
    some = omega arith;
    most = omega (arith, h.allowed.sub_mixes);
    words_long = length_part (mixes_of p * 5) (mix_words p) k.words (omega (arith, h.words_long));
    floats_long = length_part (mixes_of p * 577) (mix_floats p) k.floats (omega (arith, h.floats_long));
    counts = λ m l. (h.mixes m l).buffers;
  }

  pub mixes_rows : RowsWhole p (with_mixes p d k).words (with_mixes p d k).floats
  unfolding with_mixes
  mixes_rows =
      let n = mixes_of p in
      let a = mix_words p in
      let r = (mixes_in p d k).words in
      let st = mix_rows (mix_words_in p k.words) (mix_floats_in p k.floats) in
      let l = mixes_sized (revision_of p) d n st old_mixes in
      let room : a + n * 5 ≤ length k.words = omega (arith, h.words_long) in
      let after = put_after k.words a (n * 5) r l.words_long room in
      let sinks : sink_words_in p (put k.words a r) ≡ sink_words_in p k.words = after (p.sinks * 10) (sink_words p) (omega arith) in
      let lists : list_words_in p (put k.words a r) ≡ list_words_in p k.words = after lists_wide (list_words p) (omega arith) in
      let same = put_same k.words a (n * 5) r l.words_long room in
      desk_rows p k h a (n * 5) r l.words_long room (mix_floats p) (n * 577) (mixes_in p d k).floats l.floats_long (omega (arith, h.floats_long))
      (omega arith) (omega arith) (rw same (mixes_kept (revision_of p) d n st old_mixes h.mixes))
      (rw sinks h.sinks) (rw lists h.lengths) (rw lists h.flags)

  -- ---- sinks

  old_sinks : SinksSized p.sinks (sink_words_in p k.words) (sink_floats_in p k.floats)
  old_sinks = record {
    most = h.allowed.sinks;
    words_long = length_part (p.sinks * 10) (sink_words p) k.words (omega (arith, h.words_long));
    floats_long = length_part (p.sinks * 4) (sink_floats p) k.floats (omega (arith, h.floats_long));
  }

  pub sinks_rows : RowsWhole p (with_sinks p d k).words (with_sinks p d k).floats
  unfolding with_sinks
  sinks_rows =
      let n = p.sinks in
      let a = sink_words p in
      let r = (sinks_in p d k).words in
      let st = sink_rows (sink_words_in p k.words) (sink_floats_in p k.floats) in
      let l = sinks_sized n d st old_sinks in
      let room : a + n * 10 ≤ length k.words = omega (arith, h.words_long) in
      let mixes : mix_words_in p (put k.words a r) ≡ mix_words_in p k.words =
      put_before k.words a (n * 10) r l.words_long room (mixes_of p * 5) (mix_words p) (omega arith) in
      let lists : list_words_in p (put k.words a r) ≡ list_words_in p k.words =
      put_after k.words a (n * 10) r l.words_long room lists_wide (list_words p) (omega arith) in
      let same = put_same k.words a (n * 10) r l.words_long room in
      desk_rows p k h a (n * 10) r l.words_long room (sink_floats p) (n * 4) (sinks_in p d k).floats l.floats_long (omega (arith, h.floats_long))
      (omega arith) (omega arith) (rw mixes h.mixes) (rw same (sinks_kept d n st old_sinks h.sinks))
      (rw lists h.lengths) (rw lists h.flags)
