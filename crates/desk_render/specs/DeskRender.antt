-- The end of a render, on the rows of the state: the sub_mixes, and the frames of the sink. Definitions only.
use Rattle.std.specs.Prelude.{◌≡◌, List, ℕ, Float, length}
use Rattle.params.specs.declared.params.Params.{Params}
use Rattle.params.specs.Sizes.{Allowed}
use Rattle.state.specs.State.{mixes_of, words_of, floats_of, mix_words_in, mix_floats_in, sink_words_in, sink_floats_in, list_words_in, destination_floats_in}
use Rattle.desk_rows.specs.declared.Desk.{Desk}
use Rattle.desk_rows.specs.DeskRows.{Mixes, Lists}
use Rattle.desk_order.specs.DeskOrder.{mix_order}
use Rattle.mixing.specs.Mixing.{mixed_down}
use Rattle.frames.specs.Frames.{frames_of}

-- the desk has the rows of mixes, splitters and destinations that stand in the words
pub record DeskOf (p : Params) (words : List ℕ) (desk : Desk) : Type 0 where
  pub mixes : desk.mixes.n ≡ mixes_of p
  pub mix_words : desk.mixes.words.now ≡ mix_words_in p words
  pub splitters : desk.lists.ns ≡ p.splitters
  pub destinations : desk.lists.nd ≡ p.splitter_destinations
  pub list_words : desk.lists.words.now ≡ list_words_in p words

-- the mix buffers after `render_mixes`
unfoldable pub mixed_by : Params → List ℕ → List Float → List Float → List Float
mixed_by p words floats buffers =
    mixed_down p.sample_count (mixes_of p) (mix_words_in p words) (mix_floats_in p floats) p.splitters p.splitter_destinations (list_words_in p words)
    (destination_floats_in p floats) buffers

-- the sub_mixes that `render_mixes` runs, in their sequence
unfoldable pub order_by : Params → List ℕ → List ℕ
order_by p words = mix_order (mixes_of p) p.splitters p.splitter_destinations (mix_words_in p words) (list_words_in p words)

-- the frames of `write_sink`: mix 0's buffers come first, so that its offset is 0
unfoldable pub frames_by : Params → List ℕ → List Float → List Float → List Float
frames_by p words floats buffers = frames_of buffers p.sample_count 0 (sink_words_in p words) (sink_floats_in p floats) p.sinks

-- what the end of a render needs of the desk
pub record Mixable (p : Params) (words : List ℕ) (floats : List Float) : Type 0 where
  pub allowed : Allowed p
  pub words_long : length words ≡ words_of p
  pub floats_long : length floats ≡ floats_of p
  pub mixes : Mixes (mixes_of p) (mix_words_in p words)
  pub lists : Lists p.splitters p.splitter_destinations (list_words_in p words)
