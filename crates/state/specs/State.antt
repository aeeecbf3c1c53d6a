-- A renderer's state: five lent lists, and where each kind of row stands in them. Definitions only.
-- Words: the parameters (10), then rows of voices (58), mixes (5), sinks (10), splitters (129) and destinations (2).
-- Longs: the elapsed renders, then rows of voices (14). Floats: rows of voices (4), channel resources (48), mixes (577), sinks (4) and destinations (48).
-- Contexts and history depend on sound, and nothing else does: rows of voices (3 and 18).
use Rattle.std.specs.Prelude.{◌≡◌, List, ℕ, ◌+◌, ◌*◌, Float, length}
use Rattle.rows.specs.Rows.{part}
use Rattle.params.specs.declared.params.Params.{Params}
use Rattle.params.specs.Params.{params_of}
use Rattle.state.specs.declared.Places.{Places}

pub record State : Type 0 where
  pub words : List ℕ
  pub longs : List ℕ
  pub floats : List Float
  pub contexts : List ℕ
  pub history : List Float

abbrev pub state_of : List ℕ → List ℕ → List Float → List ℕ → List Float → State
state_of w l f x h = record { words = w; longs = l; floats = f; contexts = x; history = h }

-- mix 0 and the sub_mixes
abbrev pub mixes_of : Params → ℕ
mixes_of p = p.sub_mixes + 1

-- ---- where the rows of a kind begin in the words, and how many words there are

abbrev pub mix_words : Params → ℕ
mix_words p = 10 + p.voices * 58

abbrev pub sink_words : Params → ℕ
sink_words p = mix_words p + mixes_of p * 5

abbrev pub list_words : Params → ℕ
list_words p = sink_words p + p.sinks * 10

abbrev pub words_of : Params → ℕ
words_of p = list_words p + (p.splitters * 129 + p.splitter_destinations * 2)

-- ---- in the longs

abbrev pub longs_of : Params → ℕ
longs_of p = 1 + p.voices * 14

-- ---- in the floats

abbrev pub resource_floats : Params → ℕ
resource_floats p = p.voices * 4

abbrev pub mix_floats : Params → ℕ
mix_floats p = resource_floats p + p.voices * 48

abbrev pub sink_floats : Params → ℕ
sink_floats p = mix_floats p + mixes_of p * 577

abbrev pub destination_floats : Params → ℕ
destination_floats p = sink_floats p + p.sinks * 4

abbrev pub floats_of : Params → ℕ
floats_of p = destination_floats p + p.splitter_destinations * 48

unfoldable pub places_of : Params → Places
places_of p = record {
  mixes = mixes_of p;
  mix_words = mix_words p;
  sink_words = sink_words p;
  list_words = list_words p;
  words = words_of p;
  longs = longs_of p;
  resource_floats = resource_floats p;
  mix_floats = mix_floats p;
  sink_floats = sink_floats p;
  destination_floats = destination_floats p;
  floats = floats_of p;
  contexts = p.voices * 3;
  history = p.voices * 18;
}

-- the same, place by place
pub record At (p : Params) (at : Places) : Type 0 where
  pub mixes : at.mixes ≡ mixes_of p
  pub mix_words_lem : at.mix_words ≡ mix_words p
  pub sink_words_lem : at.sink_words ≡ sink_words p
  pub list_words_lem : at.list_words ≡ list_words p
  pub words : at.words ≡ words_of p
  pub longs : at.longs ≡ longs_of p
  pub resource_floats_lem : at.resource_floats ≡ resource_floats p
  pub mix_floats_lem : at.mix_floats ≡ mix_floats p
  pub sink_floats_lem : at.sink_floats ≡ sink_floats p
  pub destination_floats_lem : at.destination_floats ≡ destination_floats p
  pub floats : at.floats ≡ floats_of p
  pub contexts : at.contexts ≡ p.voices * 3
  pub history : at.history ≡ p.voices * 18

-- the five lists are as long as the parameters ask
pub record Sized (p : Params) (st : State) : Type 0 where
  pub words : length st.words ≡ words_of p
  pub longs : length st.longs ≡ longs_of p
  pub floats : length st.floats ≡ floats_of p
  pub contexts : length st.contexts ≡ p.voices * 3
  pub history : length st.history ≡ p.voices * 18

-- ---- the rows of a kind

abbrev pub params_in : State → Params
params_in st = params_of st.words

abbrev pub voice_words_in : Params → List ℕ → List ℕ
voice_words_in p words = part (p.voices * 58) 10 words

abbrev pub voice_longs_in : Params → List ℕ → List ℕ
voice_longs_in p longs = part (p.voices * 14) 1 longs

abbrev pub voice_floats_in : Params → List Float → List Float
voice_floats_in p floats = part (p.voices * 4) 0 floats

abbrev pub resources_in : Params → List Float → List Float
resources_in p floats = part (p.voices * 48) (resource_floats p) floats

abbrev pub mix_words_in : Params → List ℕ → List ℕ
mix_words_in p words = part (mixes_of p * 5) (mix_words p) words

abbrev pub mix_floats_in : Params → List Float → List Float
mix_floats_in p floats = part (mixes_of p * 577) (mix_floats p) floats

abbrev pub sink_words_in : Params → List ℕ → List ℕ
sink_words_in p words = part (p.sinks * 10) (sink_words p) words

abbrev pub sink_floats_in : Params → List Float → List Float
sink_floats_in p floats = part (p.sinks * 4) (sink_floats p) floats

abbrev pub list_words_in : Params → List ℕ → List ℕ
list_words_in p words = part (p.splitters * 129 + p.splitter_destinations * 2) (list_words p) words

abbrev pub destination_floats_in : Params → List Float → List Float
destination_floats_in p floats = part (p.splitter_destinations * 48) (destination_floats p) floats
