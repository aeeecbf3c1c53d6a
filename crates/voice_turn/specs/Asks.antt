-- What the functions of a voice's turn ask, and that each gives what the next asks. Assumes nothing.
use Rattle.std.specs.Prelude.{◌≡◌, List, ℕ, ◌+◌, ◌*◌, ◌≤◌, ◌<◌, T, Float, length}
use Rattle.std.proofs.Common.{ap, sym, subst, ◌∙◌, mul-le-mul_right, arith}
use Rattle.floats.specs.Unit.{in_unit}
use Rattle.rows.specs.Rows.{put}
use Rattle.params.specs.declared.params.Params.{Params}
use Rattle.params.specs.Sizes.{Allowed}
use Rattle.state.specs.State.{State, Sized, words_of as words_in, floats_of as floats_in, mixes_of, mix_words, mix_words_in, list_words, list_words_in}
use Rattle.desk_rows.specs.DeskRows.{Mixes, Lists}
use Rattle.voice.specs.declared.Voice.{Voice}
use Rattle.voice_rows.specs.VoiceRow.{words_of, floats_of}
use Rattle.voice_sends.specs.Sending.{Ids}
use Rattle.ranges.specs.Ascending.{Ascending}
use Rattle.turn.specs.Render.{Render}
use Rattle.turn.specs.declared.Turn.{Turn}
use Rattle.turn.specs.Turn.{needed_by, turn_of, told}
use Rattle.turn.specs.Laws.{needed_few}
use Rattle.state_voices.specs.StateVoices.{Playing}
use Rattle.state_voices.specs.Keeps.{OnlyVoice, only_voice}

-- what a render asks of the state
pub record Renderable (p : Params) (r : Render) (m : List ℕ) (st : State) : Type 0 where
  pub allowed : Allowed p
  pub sized : Sized p st
  pub mixes : Mixes (mixes_of p) (mix_words_in p st.words)
  pub lists : Lists p.splitters p.splitter_destinations (list_words_in p st.words)
  pub samples : r.sample_count ≡ p.sample_count
  pub memory : Ascending (length m) 0 r.ranges

-- what a voice is heard in: a row for each of six channels
pub record Room (p : Params) (out : List Float) : Type 0 where
  pub rows : 6 * p.sample_count ≤ length out

-- the sound of a turn t: it is that of the voice, and there is room for a row of samples in src and for each channel's in out
pub record Sounding (t : Turn) (v : Voice) (r : Render) (m : List ℕ) (src out : List Float) : Type 0 where
  pub turn : t ≡ told (turn_of v r)
  pub index : v.index < 4
  pub some : 1 ≤ v.channels
  pub few : v.channels ≤ 6
  pub fraction : T (in_unit v.fraction)
  pub samples : r.sample_count ≤ 256
  pub memory : Ascending (length m) 0 r.ranges
  pub row : 3 + t.needed ≤ length src
  pub rows : 6 * r.sample_count ≤ length out

-- the sends of a voice, of the first rows of out
pub record Sendable (p : Params) (v : Voice) (out : List Float) (w : List ℕ) (f : List Float) : Type 0 where
  pub allowed : Allowed p
  pub words : length w ≡ words_in p
  pub floats : length f ≡ floats_in p
  pub mixes : Mixes (mixes_of p) (mix_words_in p w)
  pub lists : Lists p.splitters p.splitter_destinations (list_words_in p w)
  pub ids : Ids p.voices v.channel_ids
  pub some : 1 ≤ v.channels
  pub few : v.channels ≤ 6
  pub rows : v.channels * p.sample_count ≤ length out

-- the turn of voice k as v
pub record Rendering (p : Params) (r : Render) (m : List ℕ) (k : ℕ) (st : State) (v : Voice) (out : List Float) : Type 0 where
  pub desk : Renderable p r m st
  pub inside : k < p.voices
  pub playing : Playing p.voices v
  pub some : 1 ≤ v.channels
  pub room : Room p out

-- ---- a state that differs only at voice k is as renderable

pub renderable_same : {p : Params} {r : Render} {m : List ℕ} {k : ℕ} {st u : State} → Renderable p r m st → OnlyVoice p k st u → Renderable p r m u
renderable_same {p} q o = record {
  allowed = q.allowed;
  sized = o.sized;
  mixes = subst (Mixes (mixes_of p)) (sym (o.behind (mixes_of p * 5) (mix_words p) (omega arith))) q.mixes;
  lists = subst (Lists p.splitters p.splitter_destinations) (sym (o.behind (p.splitters * 129 + p.splitter_destinations * 2) (list_words p) (omega arith))) q.lists;
  samples = q.samples;
  memory = q.memory;
}

module _ {p : Params} {r : Render} {m : List ℕ} {k : ℕ} {st : State} {v : Voice} {out : List Float} (q : Rendering p r m k st v out) where
  pub samples_few : r.sample_count ≤ 256
  samples_few = omega (arith, q.desk.samples, q.desk.allowed.samples)

  -- the row takes the samples that are needed behind three
  pub needed_upto : needed_by v r ≤ 4097
  unfolding turn_of
  needed_upto = needed_few v r q.playing.fraction samples_few

  pub sounding_of : {t : Turn} {src : List Float} → t ≡ told (turn_of v r) → 3 + needed_by v r ≤ length src → Sounding t v r m src out
  unfolding turn_of
  sounding_of {t = t} e h =
      let n : t.needed ≡ needed_by v r = λ i. (e i).needed in
      record {
        turn = e;
        index = q.playing.index;
        some = q.some;
        few = q.playing.channels;
        fraction = q.playing.fraction;
        samples = samples_few;
        memory = q.desk.memory;
        row = rw n h;
        rows = rw q.desk.samples q.room.rows;
      }

  -- after the voice is stored, as u
  pub sendable_of : (u : Voice) {w : List ℕ} {f : List Float} (o : List Float) → w ≡ put st.words (10 + k * 58) (words_of u) → f ≡ put st.floats (k * 4) (floats_of u)
      → length o ≡ length out → Sendable p v o w f
  sendable_of u o ew ef l =
      let y = renderable_same q.desk (only_voice q.desk.sized q.inside u) in
      record {
        allowed = q.desk.allowed;
        words = ap length ew ∙ y.sized.words;
        floats = ap length ef ∙ y.sized.floats;
        mixes = subst (λ (x : List ℕ). Mixes (mixes_of p) (mix_words_in p x)) (sym ew) y.mixes;
        lists = subst (λ (x : List ℕ). Lists p.splitters p.splitter_destinations (list_words_in p x)) (sym ew) y.lists;
        ids = q.playing.ids;
        some = q.some;
        few = q.playing.channels;
        rows = omega (arith, l, q.room.rows, mul-le-mul_right p.sample_count q.playing.channels);
      }
