-- A whole state can be updated. Assumes nothing.
use Rattle.std.specs.Prelude.{◌*◌}
use Rattle.std.proofs.Common.{arith}
use Rattle.rows.specs.Rows.{length_part}
use Rattle.state.specs.State.{State, params_in, mixes_of, mix_floats}
use Rattle.whole.specs.Whole.{Whole}
use Rattle.updates.specs.Update.{Updatable}

pub whole_updatable : (st : State) → Whole st → Updatable (params_in st) st
whole_updatable st h =
    let p = params_in st in
    record {
      desk = record {
        allowed = h.allowed;
        words = h.sized.words;
        floats = h.sized.floats;
        mixes = record {
          some = h.mixes.one;
          most = h.mixes.few;
          words_long = h.mixes.size;
          floats_long = length_part (mixes_of p * 577) (mix_floats p) st.floats (omega (arith, h.sized.floats));
          counts = h.mixes.buffers;
        };
      };
      sized = h.sized;
    }
