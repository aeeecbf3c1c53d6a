-- `state::places_of` meets its contract: each place is a sum. Assumes nothing.
use mathlib.Core.Path.{refl}
use Rattle.state.specs.State.{places_of}
use Rattle.state.proofs.places_of.Goals as goal

pub returns : goal.returns
unfolding places_of
returns c = (
  refl,
  record {
    mixes = refl;
    mix_words_lem = refl;
    sink_words_lem = refl;
    list_words_lem = refl;
    words = refl;
    longs = refl;
    resource_floats_lem = refl;
    mix_floats_lem = refl;
    sink_floats_lem = refl;
    destination_floats_lem = refl;
    floats = refl;
    contexts = refl;
    history = refl;
  },
)
