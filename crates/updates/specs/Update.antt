-- What an update makes of a state (mod.rs `Renderer::update`): the five updates, each on the rows of its kind, in the Rust's order. Definitions only.
use Rattle.std.specs.Prelude.{◌≡◌, List, [], ◌∷◌, ℕ, ◌+◌, ◌*◌, ◌≤◌, Float, length, get_or}
use Rattle.rows.specs.Rows.{part, put}
use Rattle.fields.specs.Fields.{section_of, rest_of}
use Rattle.params.specs.declared.params.Params.{Params}
use Rattle.params.specs.declared.sections.Sections.{Sections}
use Rattle.params.specs.Sections.{sections_of}
use Rattle.params.specs.Sizes.{Allowed, revision_of}
use Rattle.state.specs.State.{State, Sized, state_of, mixes_of, words_of, floats_of, mix_words, sink_words, list_words, resource_floats, mix_floats, sink_floats, destination_floats, mix_words_in, mix_floats_in, voice_words_in, voice_longs_in}
use Rattle.desk.specs.Sinks.{SinkRows}
use Rattle.desk_mixes.specs.Mixes.{MixRows, MixesSized}
use Rattle.splitters.specs.Destinations.{Left}
use Rattle.desk_updates.specs.DeskUpdate.{resources_at, mix_rows_at, sink_rows_at, list_rows_at}
use Rattle.voices.specs.Voices.{VoiceRows, rows_of, voices_of}
use Rattle.reply.specs.Reply.{reply_of}

-- ---- channel resources and voices

-- `update_channel_resources`
unfoldable pub with_resources : Params → List ℕ → State → State
with_resources p d st =
    state_of st.words st.longs (put st.floats (resource_floats p) (resources_at d p.voices (resource_floats p) st.floats)) st.contexts st.history

-- `update_voices`: the rows of n voices begin at 10 words, 1 long and 0 floats, and are all of the contexts and the history
unfoldable pub voice_rows_in : ℕ → List ℕ → ℕ → State → VoiceRows
voice_rows_in revision d n st =
    voices_of revision d n (rows_of (part (n * 58) 10 st.words) (part (n * 14) 1 st.longs) (part (n * 4) 0 st.floats) st.contexts st.history)

abbrev pub put_voices : VoiceRows → State → State
put_voices r st = state_of (put st.words 10 r.words) (put st.longs 1 r.longs) (put st.floats 0 r.floats) r.contexts r.history

unfoldable pub with_voices : Params → List ℕ → State → State
with_voices p d st = put_voices (voice_rows_in (revision_of p) d p.voices st) st

unfoldable pub after_voices : Params → Sections → List ℕ → State → State
after_voices p s input st =
    with_voices p (section_of input s.voices_at s.voices_size) (with_resources p (section_of input s.resources_at s.resources_size) st)

-- ---- splitters, mixes and sinks: of the state they change words and floats

pub record Desk : Type 0 where
  pub words : List ℕ
  pub floats : List Float

abbrev pub desk : List ℕ → List Float → Desk
desk words floats = record { words = words; floats = floats }

-- `update_splitters`, and how many bytes it takes
abbrev pub lists_in : Params → List ℕ → Desk → Left
lists_in p d k = list_rows_at d p.splitters p.splitter_destinations (list_words p) k.words (destination_floats p) k.floats

unfoldable pub with_lists : Params → List ℕ → Desk → Desk
with_lists p d k = desk (put k.words (list_words p) (lists_in p d k).words) (put k.floats (destination_floats p) (lists_in p d k).floats)

unfoldable pub lists_size : Params → List ℕ → Desk → ℕ
lists_size p d k = (lists_in p d k).at

-- `update_mixes`
abbrev pub mixes_in : Params → List ℕ → Desk → MixRows
mixes_in p d k = mix_rows_at (revision_of p) d (mixes_of p) (mix_words p) k.words (mix_floats p) k.floats

unfoldable pub with_mixes : Params → List ℕ → Desk → Desk
with_mixes p d k = desk (put k.words (mix_words p) (mixes_in p d k).words) (put k.floats (mix_floats p) (mixes_in p d k).floats)

-- `update_sinks`
abbrev pub sinks_in : Params → List ℕ → Desk → SinkRows
sinks_in p d k = sink_rows_at d p.sinks (sink_words p) k.words (sink_floats p) k.floats

unfoldable pub with_sinks : Params → List ℕ → Desk → Desk
with_sinks p d k = desk (put k.words (sink_words p) (sinks_in p d k).words) (put k.floats (sink_floats p) (sinks_in p d k).floats)

-- the mixes come right behind the splitters, and the sinks behind the mixes
unfoldable pub mixes_at : Params → Sections → List ℕ → Desk → ℕ
mixes_at p s input k = s.splitters_at + lists_size p (rest_of input s.splitters_at) k

unfoldable pub after_desk : Params → Sections → List ℕ → Desk → Desk
after_desk p s input k =
    let at = mixes_at p s input k in
    with_sinks p (section_of input (at + s.mixes_size) s.sinks_size)
    (with_mixes p (section_of input at s.mixes_size) (with_lists p (rest_of input s.splitters_at) k))

-- ---- the whole update, and its reply

-- the state with other words and floats
abbrev pub with_desk : State → Desk → State
with_desk st k = state_of k.words st.longs k.floats st.contexts st.history

abbrev pub desk_of : State → Desk
desk_of st = desk st.words st.floats

-- by an input with at least one byte: each section is where the header's sizes put it
unfoldable pub changed : Params → List ℕ → State → State
changed p input st =
    let after = after_voices p (sections_of input) input st in
    with_desk after (after_desk p (sections_of input) input (desk_of after))

-- an input without a byte asks for the reply alone: the state stays
unfoldable pub updated : Params → List ℕ → State → State
updated p [] st = st
updated p (b ∷ bs) st = changed p (b ∷ bs) st

-- the reply, of the state as the update leaves it: the elapsed renders, which are the first long, and the voices
unfoldable pub update_reply : Params → ℕ → List ℕ → State → List ℕ
update_reply p expected input after = reply_of p expected input (get_or after.longs 0 0) (voice_words_in p after.words) (voice_longs_in p after.longs)

-- there is room for the rows of n voices
pub record VoicesInside (n : ℕ) (st : State) : Type 0 where
  pub few : n ≤ 64
  pub words : 10 + n * 58 ≤ length st.words
  pub longs : 1 + n * 14 ≤ length st.longs
  pub floats : n * 4 ≤ length st.floats
  pub contexts : length st.contexts ≡ n * 3
  pub history : length st.history ≡ n * 18

-- what the desk's updates need: the lengths, and no mix with more than 24 buffers
pub record DeskUpdatable (p : Params) (k : Desk) : Type 0 where
  pub allowed : Allowed p
  pub words : length k.words ≡ words_of p
  pub floats : length k.floats ≡ floats_of p
  pub mixes : MixesSized (mixes_of p) (mix_words_in p k.words) (mix_floats_in p k.floats)

-- what an update needs of a state
pub record Updatable (p : Params) (st : State) : Type 0 where
  pub desk : DeskUpdatable p (desk_of st)
  pub sized : Sized p st
