-- The rows of voice k in a renderer's state: its position (58 words, 14 longs, 4 floats) and its sound (3 contexts, 18 floats of history). Definitions only.
use Rattle.std.specs.Prelude.{◌≡◌, Bool, true, false, List, ℕ, ◌+◌, ◌*◌, ◌≤◌, ◌<◌, T, Float, length}
use Rattle.floats.specs.Unit.{in_unit}
use Rattle.rows.specs.Rows.{part, put}
use Rattle.params.specs.declared.params.Params.{Params}
use Rattle.params.specs.Sizes.{Allowed}
use Rattle.state.specs.State.{State, Sized, resource_floats, resources_in}
use Rattle.voice.specs.declared.Voice.{Voice}
use Rattle.voice.specs.declared.sound.Sound.{Sound}
use Rattle.voice.specs.declared.ready.Prepared.{Prepared}
use Rattle.voice.specs.Sound.{silent_sound}
use Rattle.voice_rows.specs.VoiceRow.{voice_of, words_of, longs_of, floats_of}
use Rattle.voice_rows.specs.IdleRow.{IdleRow}
use Rattle.sound_rows.specs.SoundRow.{contexts_of, history_of}
use Rattle.voice_sends.specs.Sending.{Ids, taken_over}
use Rattle.turn.specs.Turn.{takes_part, begin_of}

-- ---- voice k

unfoldable pub voice_on : ℕ → List ℕ → List ℕ → List Float → Voice
unfolding part voice_of
voice_on k words longs floats = voice_of (part 58 (10 + k * 58) words) (part 14 (1 + k * 14) longs) (part 4 (k * 4) floats)

abbrev pub voice_in : ℕ → State → Voice
voice_in k st = voice_on k st.words st.longs st.floats

-- it has nothing to do, as its words say
abbrev pub Idle : ℕ → List ℕ → Type 0
Idle k words = IdleRow (part 58 (10 + k * 58) words)

-- the state with v as voice k
abbrev pub put_voice : ℕ → Voice → State → State
put_voice k v st = record {
  words = put st.words (10 + k * 58) (words_of v);
  longs = put st.longs (1 + k * 14) (longs_of v);
  floats = put st.floats (k * 4) (floats_of v);
  contexts = st.contexts;
  history = st.history;
}

-- the state with s as the sound of voice k
abbrev pub put_sound : ℕ → Sound → State → State
put_sound k s st = record {
  words = st.words;
  longs = st.longs;
  floats = st.floats;
  contexts = put st.contexts (k * 3) (contexts_of s);
  history = put st.history (k * 18) (history_of s);
}

-- the state with other floats
abbrev pub with_floats : List Float → State → State
with_floats floats st = record { words = st.words; longs = st.longs; floats = floats; contexts = st.contexts; history = st.history }

-- ---- before a turn fetches

-- the channel resources of a fresh voice: previous := mix
unfoldable pub fresh_floats : Bool → Params → Voice → List Float → List Float
unfolding put taken_over
fresh_floats true p v floats = put floats (resource_floats p) (taken_over v.channel_ids v.channels (resources_in p floats))
fresh_floats false p v floats = floats

abbrev pub taken : Params → Voice → State → State
taken p v st = with_floats (fresh_floats v.fresh p v st.floats) st

-- the sound of a voice that has stopped is silent
unfoldable pub reset_by : Bool → ℕ → State → State
unfolding put contexts_of history_of
reset_by true k st = put_sound k silent_sound st
reset_by false k st = st

-- a voice that is not ready: it is stored as prepared, and that is all
abbrev pub unready : ℕ → Prepared → State → State
unready k b st = reset_by b.reset k (put_voice k b.voice st)

-- what is stored of it already, by whether it is ready
unfoldable pub stored_by : Bool → ℕ → Prepared → State → State
unfolding put words_of longs_of floats_of reset_by
stored_by true k b st = st
stored_by false k b st = unready k b st

-- a voice as it was prepared, by whether it takes part
unfoldable pub begun_voice : Bool → Voice → Prepared
unfolding begin_of
begun_voice true v = begin_of v
begun_voice false v = record { voice = v; ready = false; reset = false }

-- and the state then: the resources of a fresh voice are taken over before it is prepared
unfoldable pub begun_state : Bool → Params → ℕ → Voice → State → State
unfolding stored_by begin_of fresh_floats
begun_state true p k v st = stored_by (begin_of v).ready k (begin_of v) (taken p v st)
begun_state false p k v st = st

pub record Begun : Type 0 where
  pub state : State
  pub prepared : Prepared

abbrev pub begun_of : State → Prepared → Begun
begun_of st b = record { state = st; prepared = b }

-- what the turn of voice k does before it fetches
unfoldable pub begun : Params → ℕ → State → Begun
unfolding begun_state begun_voice takes_part voice_on
begun p k st = record { state = begun_state (takes_part (voice_in k st)) p k (voice_in k st) st; prepared = begun_voice (takes_part (voice_in k st)) (voice_in k st) }

-- ---- what a turn asks of a voice

-- its slots and channels are in range, its channel ids name resources (one for each of n voices), its fraction is in [0, 1)
pub record Playing (n : ℕ) (v : Voice) : Type 0 where
  pub index : v.index < 4
  pub base : v.base_index < 4
  pub channels : v.channels ≤ 6
  pub some : v.in_use ≡ true → 1 ≤ v.channels
  pub ids : Ids n v.channel_ids
  pub fraction : T (in_unit v.fraction)

-- so of voice k
abbrev pub Playable : Params → ℕ → State → Type 0
Playable p k st = Playing p.voices (voice_in k st)

-- what is asked of the state for it
pub record Beginning (p : Params) (k : ℕ) (st : State) : Type 0 where
  pub allowed : Allowed p
  pub sized : Sized p st
  pub inside : k < p.voices
  pub playing : Playable p k st

-- ---- the rows are there

pub record PositionInside (k : ℕ) (w l : List ℕ) (f : List Float) : Type 0 where
  pub few : k < 64
  pub words : 10 + k * 58 + 58 ≤ length w
  pub longs : 1 + k * 14 + 14 ≤ length l
  pub floats : k * 4 + 4 ≤ length f

pub record SoundInside (k : ℕ) (c : List ℕ) (h : List Float) : Type 0 where
  pub few : k < 64
  pub contexts : k * 3 + 3 ≤ length c
  pub history : k * 18 + 18 ≤ length h
