-- The turn of a voice that is ready (mixer.rs `render_voice`), on the state and the mix buffers. Definitions only.
use Rattle.std.specs.Prelude.{Bool, true, false, List, ℕ, ◌+◌, Float}
use Rattle.rows.specs.Rows.{put}
use Rattle.params.specs.declared.params.Params.{Params}
use Rattle.state.specs.State.{State}
use Rattle.voice.specs.declared.Voice.{Voice}
use Rattle.voice.specs.declared.sound.Sound.{Sound}
use Rattle.voice.specs.Voice.{has_destination}
use Rattle.voice_rows.specs.VoiceRow.{words_of, longs_of, floats_of}
use Rattle.sound_rows.specs.SoundRow.{contexts_of, history_of}
use Rattle.voice_sends.specs.Sending.{Sent, ramped_rows}
use Rattle.turn.specs.Render.{Render}
use Rattle.turn.specs.Turn.{source_of, turn_of}
use Rattle.playing.specs.Playing.{Material, played_sound}
use Rattle.hearing.specs.Hearing.{sound_in, heard_out}
use Rattle.sending.specs.Sending.{routed, routed_floats}
use Rattle.state_voices.specs.StateVoices.{put_voice, put_sound, with_floats}

-- what a render works on: the state, the mix buffers, and the rounds that the fetches so far took
pub record Studio : Type 0 where
  pub state : State
  pub buffers : List Float
  pub rounds : ℕ

abbrev pub studio : State → List Float → ℕ → Studio
studio st buffers rounds = record { state = st; buffers = buffers; rounds = rounds }

-- what the sound of v's turn is made from; m is sample memory
unfoldable pub material_of : Render → List ℕ → Voice → Sound → Material
unfolding turn_of
material_of r m v sound = record {
  plan = (turn_of v r).plan;
  source = source_of v r;
  memory = m;
  needed = (turn_of v r).needed;
  sound = sound;
  ratio = (turn_of v r).ratio;
  fraction = (turn_of v r).fraction;
  count = r.sample_count;
}

-- so of voice k in the state
abbrev pub turn_material : Render → List ℕ → ℕ → Voice → State → Material
turn_material r m k v st = material_of r m v (sound_in k st.contexts st.history)

-- the state after the fetch: voice k and its sound are stored
abbrev pub fetched : Render → List ℕ → ℕ → Voice → State → State
fetched r m k v st = put_sound k (played_sound (turn_material r m k v st)) (put_voice k (turn_of v r).voice st)

-- what is heard of the turn, ramped
unfoldable pub ramped_out : Params → Render → Voice → Material → List Float
unfolding turn_of ramped_rows heard_out
ramped_out p r v w = ramped_rows (turn_of v r).from (turn_of v r).to p.sample_count v.channels (heard_out w)

-- the voice's sends of `out`
abbrev pub sends_by : Params → Voice → List Float → List ℕ → List Float → List Float → Sent
sends_by p v out words floats buffers = routed p p.sample_count v.channels v.channel_ids v.mix_id v.splitter_id out words floats buffers

-- the mix buffers and the floats after the sends, by whether the voice has a destination
unfoldable pub sent_buffers : Bool → Params → Voice → List Float → List ℕ → List Float → List Float → List Float
unfolding routed
sent_buffers true p v out words floats buffers = (sends_by p v out words floats buffers).buffers
sent_buffers false p v out words floats buffers = buffers

unfoldable pub sent_floats : Bool → Params → Voice → List Float → List ℕ → List Float → List Float → List Float
unfolding routed routed_floats
sent_floats true p v out words floats buffers = routed_floats p (sends_by p v out words floats buffers) floats
sent_floats false p v out words floats buffers = floats

-- whether it has one
abbrev pub destined : Voice → Bool
destined v = has_destination v.mix_id v.splitter_id

-- the state and the mix buffers after the sends of `out`
abbrev pub sent_studio : Params → Voice → List Float → State → List Float → ℕ → Studio
sent_studio p v out st buffers rounds =
    studio (with_floats (sent_floats (destined v) p v out st.words st.floats buffers) st) (sent_buffers (destined v) p v out st.words st.floats buffers) rounds

-- the turn of voice k, prepared as v
unfoldable pub played : Params → Render → List ℕ → ℕ → Voice → Studio → Studio
unfolding put words_of longs_of floats_of contexts_of history_of turn_of material_of sound_in played_sound ramped_out sent_buffers sent_floats has_destination
played p r m k v x =
    sent_studio p v (ramped_out p r v (turn_material r m k v x.state)) (fetched r m k v x.state) x.buffers (x.rounds + (turn_of v r).plan.rounds)
