-- The rows of all voices, and what an update makes of them (mixer.rs `update_voices`). Assumes nothing.
-- Voice k has 58 words from k * 58, 14 longs from k * 14 and 4 floats from k * 4; its sound has 3 contexts from k * 3 and 18 floats of history from k * 18.
use Rattle.std.specs.Prelude.{ℕ, ◌+◌, ◌*◌, ◌≤◌, ◌<◌, Bool, true, false, cond, List, ◌≡◌, Float, length, set}
use Rattle.rows.specs.Rows.{part, put}
use Rattle.rows.specs.Folds.{up_to}
use Rattle.fields.specs.Fields.{section_of}
use Rattle.params.specs.Sections.{voices_section}
use Rattle.voice.specs.declared.Voice.{Voice}
use Rattle.voice.specs.Sound.{silent_sound}
use Rattle.voice_rows.specs.VoiceRow.{voice_of, words_of, longs_of, floats_of}
use Rattle.sound_rows.specs.SoundRow.{contexts_of, history_of}
use Rattle.voice_records.specs.Record.{record_used, record_new, recorded}

pub record VoiceRows : Type 0 where
  pub words : List ℕ
  pub longs : List ℕ
  pub floats : List Float
  pub contexts : List ℕ
  pub history : List Float

abbrev pub rows_of : List ℕ → List ℕ → List Float → List ℕ → List Float → VoiceRows
rows_of w l f c h = record { words = w; longs = l; floats = f; contexts = c; history = h }

-- the rows of n voices and nothing else
pub record VoicesSized (n : ℕ) (st : VoiceRows) : Type 0 where
  pub few : n ≤ 64
  pub words : length st.words ≡ n * 58
  pub longs : length st.longs ≡ n * 14
  pub floats : length st.floats ≡ n * 4
  pub contexts : length st.contexts ≡ n * 3
  pub history : length st.history ≡ n * 18

-- the rows of voice k, and of its sound, are there
pub record PositionInside (k : ℕ) (w l : List ℕ) (f : List Float) : Type 0 where
  pub few : k < 64
  pub words : k * 58 + 58 ≤ length w
  pub longs : k * 14 + 14 ≤ length l
  pub floats : k * 4 + 4 ≤ length f

pub record SoundInside (k : ℕ) (c : List ℕ) (h : List Float) : Type 0 where
  pub few : k < 64
  pub contexts : k * 3 + 3 ≤ length c
  pub history : k * 18 + 18 ≤ length h

-- voice k
unfoldable pub voice_at : ℕ → List ℕ → List ℕ → List Float → Voice
voice_at k words longs floats = voice_of (part 58 (k * 58) words) (part 14 (k * 14) longs) (part 4 (k * 4) floats)

-- voice k as record p leaves it
abbrev pub recorded_at : ℕ → ℕ → List ℕ → ℕ → List ℕ → List ℕ → List Float → Voice
recorded_at revision n p k words longs floats = recorded revision n p (voice_at k words longs floats)

-- the record of voice k; empty where it is not whole
abbrev pub record_at : List ℕ → ℕ → List ℕ
record_at d k = section_of d (k * 0x170) 0x170

-- the same in an update's input; empty where the voices' section is
abbrev pub voice_record : List ℕ → ℕ → List ℕ
voice_record input k = record_at (voices_section input) k

-- a row put where the voice is new
abbrev pub put_new : {A : Type 0} → Bool → List A → ℕ → List A → List A
put_new new s at row = cond new (put s at row) s

-- voice k as v; the sound of a new one is silent
abbrev pub stored_rows : Bool → ℕ → Voice → VoiceRows → VoiceRows
stored_rows new k v st = record {
  words = put st.words (k * 58) (words_of v);
  longs = put st.longs (k * 14) (longs_of v);
  floats = put st.floats (k * 4) (floats_of v);
  contexts = put_new new st.contexts (k * 3) (contexts_of silent_sound);
  history = put_new new st.history (k * 18) (history_of silent_sound);
}

-- what record p makes of the rows of voice k, where it is in use
unfoldable pub recorded_rows : ℕ → ℕ → List ℕ → ℕ → VoiceRows → VoiceRows
unfolding voice_at
recorded_rows revision n p k st = stored_rows (record_new p) k (recorded_at revision n p k st.words st.longs st.floats) st

-- and where it is not
unfoldable pub unused_rows : ℕ → VoiceRows → VoiceRows
unused_rows k st = record {
  words = set st.words (k * 58) 0;
  longs = st.longs;
  floats = st.floats;
  contexts = st.contexts;
  history = st.history;
}

-- by whether it is
unfoldable pub step_by : Bool → ℕ → ℕ → List ℕ → ℕ → VoiceRows → VoiceRows
unfolding recorded_rows unused_rows
step_by true revision n p k st = recorded_rows revision n p k st
step_by false revision n p k st = unused_rows k st

-- what an update makes of the rows of voice k
unfoldable pub voice_step : ℕ → ℕ → List ℕ → ℕ → VoiceRows → VoiceRows
unfolding step_by
voice_step revision n d k st = step_by (record_used (record_at d k)) revision n (record_at d k) k st

-- all n voices, of which each has a channel resource
unfoldable pub voices_of : ℕ → List ℕ → ℕ → VoiceRows → VoiceRows
unfolding voice_step
voices_of revision d n st = up_to (voice_step revision n d) n st
