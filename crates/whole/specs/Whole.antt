-- Question 4: whether a state is whole, and what follows where it is. Assumes nothing.
use Rattle.std.specs.Prelude.{◌≡◌, Bool, true, ◌&&◌, List, [], ◌∷◌, ℕ, ◌+◌, ◌*◌, ◌≤◌, ◌<◌, leb, eqb, Float, length, get_or}
use Rattle.std.proofs.Common.{arith}
use borrow.Author.Tests.{leb-true, le-leb, eqb-true, eq-eqb}
use Rattle.rows.specs.Rows.{length_part}
use Rattle.params.specs.declared.params.Params.{Params}
use Rattle.params.specs.Sizes.{Allowed}
use Rattle.desk_rows.specs.DeskRows.{Mixes, list_length, Lists}
use Rattle.state.specs.declared.Places.{Places}
use Rattle.state.specs.State.{State, Sized, places_of, mixes_of, words_of, longs_of, floats_of, mix_words, list_words, params_in, voice_words_in, voice_floats_in, mix_words_in, sink_words_in, list_words_in}
use Rattle.row_tests.specs.Tests.{both_left, both_right, every, every_at}
use Rattle.whole.specs.Counts.{samples_allowed, counts_allowed, allowed_facts, samples_are, counts_are}
use Rattle.row_tests.specs.Voices.{voices_whole, VoiceWhole, voices_facts, voices_are}
use Rattle.row_tests.specs.Desk.{mixes_whole, MixWhole, mixes_facts, mixes_are, mixes_give, sinks_whole, SinkWhole, sinks_facts, sinks_are, lists_whole, lengths_facts, destinations_facts, lists_are}

-- ---- the lengths of the five lists

abbrev pub length_tests : Places → ℕ → ℕ → ℕ → ℕ → ℕ → List Bool
length_tests at words longs floats contexts history =
    eqb words at.words
    ∷ eqb longs at.longs
    ∷ eqb floats at.floats
    ∷ eqb contexts at.contexts
    ∷ eqb history at.history
    ∷ []

unfoldable pub lengths_right : Places → ℕ → ℕ → ℕ → ℕ → ℕ → Bool
lengths_right at words longs floats contexts history = every (length_tests at words longs floats contexts history)

abbrev pub sized_of : Places → State → Bool
sized_of at st = lengths_right at (length st.words) (length st.longs) (length st.floats) (length st.contexts) (length st.history)

pub length_facts : (p : Params) (words longs floats contexts history : ℕ) → lengths_right (places_of p) words longs floats contexts history ≡ true
    → (words ≡ words_of p) × (longs ≡ longs_of p) × (floats ≡ floats_of p) × (contexts ≡ p.voices * 3) × (history ≡ p.voices * 18)
unfolding lengths_right places_of
length_facts p words longs floats contexts history h =
    let t = every_at (length_tests (places_of p) words longs floats contexts history) h in
    (eqb-true _ _ (t 0), eqb-true _ _ (t 1), eqb-true _ _ (t 2), eqb-true _ _ (t 3), eqb-true _ _ (t 4))

module _ (p : Params) (st : State) where
  pub sized_facts : sized_of (places_of p) st ≡ true → Sized p st
  sized_facts h =
      let t = length_facts p _ _ _ _ _ h in
      record { words = t.0; longs = t.1; floats = t.2; contexts = t.3; history = t.4 }

  pub sized_is : Sized p st → sized_of (places_of p) st ≡ true
  unfolding lengths_right places_of every
  sized_is s = simp (eq-eqb _ _ s.words, eq-eqb _ _ s.longs, eq-eqb _ _ s.floats, eq-eqb _ _ s.contexts, eq-eqb _ _ s.history)

-- ---- the rows

abbrev pub row_tests : Params → List ℕ → List Float → List Bool
row_tests p words floats =
    voices_whole p.voices (voice_words_in p words) (voice_floats_in p floats)
    ∷ mixes_whole (mixes_of p) (mix_words_in p words)
    ∷ sinks_whole p.sinks (sink_words_in p words)
    ∷ lists_whole p.splitters p.splitter_destinations (list_words_in p words)
    ∷ []

unfoldable pub rows_whole : Params → List ℕ → List Float → Bool
rows_whole p words floats = every (row_tests p words floats)

-- ---- the state

-- of parameters p
abbrev pub state_tests : Params → State → List Bool
state_tests p st = samples_allowed p ∷ counts_allowed p ∷ sized_of (places_of p) st ∷ rows_whole p st.words st.floats ∷ []

unfoldable pub whole_by : Params → State → Bool
whole_by p st = every (state_tests p st)

-- there are parameters, and the state is whole by them
unfoldable pub whole_of : State → Bool
whole_of st = leb 10 (length st.words) && whole_by (params_in st) st

-- ---- as facts

-- the rows of a kind are those that the kind's crate works on: `voice_words_in` and so on
pub record Whole (st : State) : Type 0 where
  pub front : 10 ≤ length st.words
  pub allowed : Allowed (params_in st)
  pub sized : Sized (params_in st) st
  pub voices : (i : ℕ) → i < (params_in st).voices
      → VoiceWhole (params_in st).voices (voice_words_in (params_in st) st.words) (voice_floats_in (params_in st) st.floats) i
  pub mixes : Mixes (mixes_of (params_in st)) (mix_words_in (params_in st) st.words)
  pub mix_rows_lem : (m : ℕ) → m < mixes_of (params_in st) → MixWhole (mix_words_in (params_in st) st.words) m
  pub sinks : (k : ℕ) → k < (params_in st).sinks → SinkWhole (sink_words_in (params_in st) st.words) k
  pub lists : Lists (params_in st).splitters (params_in st).splitter_destinations (list_words_in (params_in st) st.words)
  pub destinations : (d : ℕ) → d < (params_in st).splitter_destinations → get_or (list_words_in (params_in st) st.words) ((params_in st).splitters * 129 + d * 2) 0 ≤ 1

mix_words_long : (p : Params) (words : List ℕ) → length words ≡ words_of p → length (mix_words_in p words) ≡ mixes_of p * 5
mix_words_long p words h = length_part (mixes_of p * 5) (mix_words p) words (omega arith)

list_words_long : (p : Params) (words : List ℕ) → length words ≡ words_of p
    → length (list_words_in p words) ≡ p.splitters * 129 + p.splitter_destinations * 2
list_words_long p words h = length_part (p.splitters * 129 + p.splitter_destinations * 2) (list_words p) words (omega arith)

-- what is to be shown of a state that is whole: the rest follows
module _ (st : State) where
  pub whole_made : 10 ≤ length st.words → Allowed (params_in st) → Sized (params_in st) st
      → ((i : ℕ) → i < (params_in st).voices
      → VoiceWhole (params_in st).voices (voice_words_in (params_in st) st.words) (voice_floats_in (params_in st) st.floats) i)
      → ((m : ℕ) → m < mixes_of (params_in st) → MixWhole (mix_words_in (params_in st) st.words) m)
      → ((k : ℕ) → k < (params_in st).sinks → SinkWhole (sink_words_in (params_in st) st.words) k)
      → ((s : ℕ) → s < (params_in st).splitters → list_length (list_words_in (params_in st) st.words) s ≤ (params_in st).splitter_destinations)
      → ((d : ℕ) → d < (params_in st).splitter_destinations → get_or (list_words_in (params_in st) st.words) ((params_in st).splitters * 129 + d * 2) 0 ≤ 1)
      → Whole st
  whole_made front a s voices mixes sinks lengths destinations = record {
    front = front;
    allowed = a;
    sized = s;
    voices = voices;
    mixes = mixes_give _ _ (omega arith) (omega (arith, a.sub_mixes)) (mix_words_long (params_in st) st.words s.words) mixes;
    mix_rows_lem = mixes;
    sinks = sinks;
    lists = record { few = a.splitters; some = a.destinations; size = list_words_long (params_in st) st.words s.words; lengths = lengths };
    destinations = destinations;
  }

pub whole_facts : (st : State) → whole_of st ≡ true → Whole st
unfolding whole_of whole_by rows_whole
whole_facts st h =
    let p = params_in st in
    let front = leb 10 (length st.words) in
    let t = every_at (state_tests p st) (both_right front (whole_by p st) h) in
    let r = every_at (row_tests p st.words st.floats) (t 3) in
    let ns = p.splitters in
    let nd = p.splitter_destinations in
    let ls = list_words_in p st.words in
    whole_made st (leb-true _ _ (both_left front (whole_by p st) h)) (allowed_facts p (t 0) (t 1)) (sized_facts p st (t 2))
    (voices_facts _ _ _ (r 0)) (mixes_facts _ _ (r 1)) (sinks_facts _ _ (r 2)) (lengths_facts ns nd ls (r 3)) (destinations_facts ns nd ls (r 3))

pub whole_is : (st : State) → Whole st → whole_of st ≡ true
unfolding whole_of whole_by rows_whole every
whole_is st w =
    let p = params_in st in
    rw (
      le-leb 10 (length st.words) w.front,
      samples_are p w.allowed,
      counts_are p w.allowed,
      sized_is p st w.sized,
      voices_are _ _ _ w.voices,
      mixes_are _ _ w.mix_rows_lem,
      sinks_are _ _ w.sinks,
      lists_are _ _ _ w.lists.lengths w.destinations,
    )
