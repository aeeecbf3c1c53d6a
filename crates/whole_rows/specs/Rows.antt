-- The rows of a state by given parameters, each kind whole: what a whole state has, and what makes one. Assumes nothing.
use Rattle.std.specs.Prelude.{◌≡◌, refl, List, ℕ, ◌+◌, ◌*◌, ◌≤◌, ◌<◌, Float, length, get_or}
use Rattle.std.proofs.Common.{subst, arith}
use Rattle.params.specs.declared.params.Params.{Params}
use Rattle.params.specs.Params.{params_of}
use Rattle.params.specs.Sizes.{Allowed}
use Rattle.state.specs.State.{State, Sized, mixes_of, words_of, floats_of, params_in, voice_words_in, voice_floats_in, mix_words_in, sink_words_in, list_words_in}
use Rattle.desk_rows.specs.DeskRows.{list_length}
use Rattle.row_tests.specs.Voices.{VoiceWhole}
use Rattle.row_tests.specs.Desk.{MixWhole, SinkWhole}
use Rattle.whole.specs.Whole.{Whole, whole_made}

pub record RowsWhole (p : Params) (words : List ℕ) (floats : List Float) : Type 0 where
  pub params : params_of words ≡ p
  pub allowed : Allowed p
  pub words_long : length words ≡ words_of p
  pub floats_long : length floats ≡ floats_of p
  pub voices : (i : ℕ) → i < p.voices → VoiceWhole p.voices (voice_words_in p words) (voice_floats_in p floats) i
  pub mixes : (m : ℕ) → m < mixes_of p → MixWhole (mix_words_in p words) m
  pub sinks : (k : ℕ) → k < p.sinks → SinkWhole (sink_words_in p words) k
  pub lengths : (s : ℕ) → s < p.splitters → list_length (list_words_in p words) s ≤ p.splitter_destinations
  pub flags : (d : ℕ) → d < p.splitter_destinations → get_or (list_words_in p words) (p.splitters * 129 + d * 2) 0 ≤ 1

pub rows_of : (st : State) → Whole st → RowsWhole (params_in st) st.words st.floats
rows_of st h = record {
  params = refl;
  allowed = h.allowed;
  words_long = h.sized.words;
  floats_long = h.sized.floats;
  voices = h.voices;
  mixes = h.mix_rows_lem;
  sinks = h.sinks;
  lengths = h.lists.lengths;
  flags = h.destinations;
}

-- the other three lists have their lengths too
pub rows_whole : (p : Params) (st : State) → RowsWhole p st.words st.floats → Sized p st → Whole st
rows_whole p st r s =
    let made : RowsWhole (params_in st) st.words st.floats → Sized (params_in st) st → Whole st =
    λ r s. whole_made st (omega (arith, s.words)) r.allowed s r.voices r.mixes r.sinks r.lengths r.flags in
    subst (λ (q : Params). RowsWhole q st.words st.floats → Sized q st → Whole st) r.params made r s
