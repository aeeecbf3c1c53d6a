-- A render leaves a whole state whole, with the same parameters. Assumes nothing.
use Rattle.std.specs.Prelude.{◌≡◌, refl, List, ℕ, ◌+◌, ◌*◌, ◌≤◌, ◌<◌, Float, length, get_or, replicate}
use Rattle.std.proofs.Common.{ap, sym, subst, ◌∙◌, arith}
use Rattle.floats.specs.Defs.{zero32}
use Rattle.ranges.specs.Ranges.{Range}
use Rattle.ranges.specs.Ascending.{Ascending}
use Rattle.params.specs.declared.params.Params.{Params}
use Rattle.params.specs.Params.{params_of, params_part}
use Rattle.state.specs.State.{State, Sized, mixes_of, mix_words, sink_words, list_words, params_in, voice_words_in, voice_floats_in, mix_words_in, sink_words_in, list_words_in}
use Rattle.whole.specs.Whole.{Whole}
use Rattle.whole_rows.specs.Rows.{rows_whole}
use Rattle.turn.specs.Render.{Render}
use Rattle.voice_turn.specs.Played.{studio}
use Rattle.render.specs.Render.{elapsed, render_of, rendered_on, rendered_by}
use Rattle.render.specs.Laws.{elapsed_playing}
use Rattle.render.specs.FromWhole.{whole_playing}
use Rattle.render_keeps.specs.Rows.{row_marks, row_whole}
use Rattle.render_keeps.specs.Turns.{Kept, voices_kept}

-- ---- before the first voice, and after the last

module _ (st : State) (h : Whole st) (rs : List Range) (m : List ℕ) (laid : Ascending (length m) 0 rs) where
  abbrev p : Params
  p = params_in st

  abbrev r : Render
  r = render_of p rs

  begin_kept : Kept p r m st (elapsed st)
  unfolding elapsed
  begin_kept =
      let y = elapsed_playing (whole_playing st h rs m laid) in
      record {
        desk = y.desk;
        front = refl;
        behind = λ w at l. refl;
        voices = λ j l. y.voices j (omega arith) l;
        marks = λ j l. row_marks p st j l (h.voices j l);
      }

  kept_params : {b : State} → Kept p r m st b → params_in b ≡ p
  kept_params {b} q = sym (params_part b.words) ∙ ap params_of q.front ∙ params_part st.words

  -- the rows behind the voices are as they were
  kept_whole : {b : State} → Kept p r m st b → Whole b
  kept_whole {b} q =
      let mixes = q.behind (mixes_of p * 5) (mix_words p) (omega arith) in
      let sinks = q.behind (p.sinks * 10) (sink_words p) (omega arith) in
      let lists = q.behind (p.splitters * 129 + p.splitter_destinations * 2) (list_words p) (omega arith) in
      rows_whole p b
      (record {
        params = kept_params q;
        allowed = h.allowed;
        words_long = q.desk.sized.words;
        floats_long = q.desk.sized.floats;
        voices = λ j l. row_whole p b j l (q.marks j l) (q.voices j l);
        mixes = rw mixes h.mix_rows_lem;
        sinks = rw sinks h.sinks;
        lengths = rw lists h.lists.lengths;
        flags = rw lists h.destinations;
      })
      q.desk.sized

  render_kept : (frames : List Float) → Kept p r m st (rendered_by p rs m st frames).state
  unfolding rendered_by rendered_on
  render_kept frames = voices_kept (studio (elapsed st) (replicate (p.mix_buffers * p.sample_count) zero32) 0) begin_kept p.voices (omega arith)

-- the parameters are those before it
pub render_params : (st : State) → Whole st → (rs : List Range) (m : List ℕ) → Ascending (length m) 0 rs → (frames : List Float)
    → params_in (rendered_by (params_in st) rs m st frames).state ≡ params_in st
render_params st h rs m laid frames = kept_params st h rs m laid (render_kept st h rs m laid frames)

-- what a render leaves is whole
pub render_whole : (st : State) → Whole st → (rs : List Range) (m : List ℕ) → Ascending (length m) 0 rs → (frames : List Float)
    → Whole (rendered_by (params_in st) rs m st frames).state
render_whole st h rs m laid frames = kept_whole st h rs m laid (render_kept st h rs m laid frames)
