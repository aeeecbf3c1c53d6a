-- The last part of mixer.rs `render_voice` on the state's lists: a voice's ramp, and its sends by gains that are rows of the state's floats.
-- Definitions only.
use Rattle.std.specs.Prelude.{List, ℕ, ◌*◌, take, Float}
use Rattle.rows.specs.Rows.{part, put}
use Rattle.params.specs.declared.params.Params.{Params}
use Rattle.state.specs.State.{mixes_of, mix_words_in, list_words_in, resource_floats, resources_in, destination_floats, destination_floats_in}
use Rattle.voice_sends.specs.Sending.{ramped_rows, Passing, passing, Sent, sent_of, sends_of}

-- the voice's rows of n samples, ramped
unfoldable pub route_out : Float → Float → ℕ → ℕ → List Float → List Float
route_out from to n channels out = ramped_rows from to n channels (take (channels * n) out)

-- ---- gains in place: rows that begin at a in the floats

-- what sends by `count` rows of gains work on
abbrev pub gains_at : ℕ → ℕ → List Float → List Float → Passing
gains_at count a floats buffers = passing buffers (part (count * 48) a floats)

-- what they leave, with the floats that the gains are a part of
abbrev pub gains_back : ℕ → List Float → Passing → Passing
gains_back a floats st = passing st.buffers (put floats a st.gains)

-- what all sends of a voice work on: nc resources from a on, nd destinations from b on
abbrev pub sent_at : ℕ → ℕ → ℕ → ℕ → List Float → List Float → Sent
sent_at nc a nd b floats buffers = sent_of buffers (part (nc * 48) a floats) (part (nd * 48) b floats)

-- what they leave
abbrev pub sent_back : ℕ → ℕ → List Float → Sent → Passing
sent_back a b floats s = passing s.buffers (put (put floats a s.resources) b s.destinations)

-- ---- in the state

unfoldable pub routed : Params → ℕ → ℕ → List ℕ → ℕ → ℕ → List Float → List ℕ → List Float → List Float → Sent
routed p n channels ids mix splitter o words floats buffers =
    sends_of n o channels ids mix splitter (mix_words_in p words) (mixes_of p) (list_words_in p words) p.splitters p.splitter_destinations
    (sent_of buffers (resources_in p floats) (destination_floats_in p floats))

-- the floats with the gains that the sends leave
unfoldable pub routed_floats : Params → Sent → List Float → List Float
routed_floats p s floats = put (put floats (resource_floats p) s.resources) (destination_floats p) s.destinations
