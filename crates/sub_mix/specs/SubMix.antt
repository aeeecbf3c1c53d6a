-- What one sub-mix does to the mix buffers. Definitions only.
-- n is samples a render. `mixes` and `lists` have the desk's words, `volumes` the mixes' floats and `destinations` those of the splitters' destinations.
use Rattle.std.proofs.Math.Bool.{cond}
use Rattle.std.specs.Prelude.{◌&&◌, List, ℕ, ◌+◌, ◌*◌, ◌%◌, max, ltb, leb, eqb, length, get_or, Float}
use Rattle.std.specs.Float.{nan}
use Rattle.rows.specs.Rows.{part}
use Rattle.rows.specs.Folds.{up_to}
use Rattle.sends.specs.Sends.{spread, scaled_at}
use Rattle.desk_rows.specs.DeskRows.{mix_buffers, mix_destination, mix_splitter, mix_offset, list_length, list_entry, configured_of, destination_mix}
use Rattle.desk_order.specs.DeskOrder.{unused_mix}

-- mix m's volume
abbrev pub mix_volume : List Float → ℕ → Float
mix_volume volumes m = get_or volumes (m * 577) nan

-- the 24 volumes of mix m's buffer i
abbrev pub buffer_volumes : List Float → ℕ → ℕ → List Float
buffer_volumes volumes m i = part 24 (m * 577 + 1 + i * 24) volumes

-- the 24 volumes of destination d
abbrev pub destination_volumes : List Float → ℕ → List Float
destination_volumes destinations d = part 24 (d * 48) destinations

-- Row `row` of the buffers, as it stands, sent to the rows of mix `to`, to the j-th with the gain volume * volumes[j]. A row that is not inside
-- the buffers sends nothing.
unfoldable pub send_row : ℕ → List ℕ → ℕ → ℕ → Float → List Float → List Float → List Float
unfolding spread part
send_row n mixes row to volume volumes buffers =
    cond (leb (row * n + n) (length buffers))
    (spread (scaled_at volume volumes) (scaled_at volume volumes) (mix_offset mixes to) n (part n (row * n) buffers) (mix_buffers mixes to) buffers)
    buffers

-- buffer i of mix m, sent to mix `to`
unfoldable pub send_buffer : ℕ → List ℕ → List Float → ℕ → ℕ → ℕ → List Float → List Float
unfolding send_row part
send_buffer n mixes volumes m to i buffers =
    send_row n mixes (mix_offset mixes m + i) to (mix_volume volumes m) (buffer_volumes volumes m i) buffers

-- one of mix m's buffers, sent to the mix of destination d, which is entry k of m's splitter, if d is configured and its mix is one of the nm: the
-- entries take the buffers in turn
unfoldable pub send_entry : ℕ → ℕ → List ℕ → List Float → ℕ → ℕ → List ℕ → List Float → ℕ → ℕ → ℕ → List Float → List Float
unfolding configured_of send_row part
send_entry n nm mixes volumes ns nd lists destinations m k d buffers =
    cond (configured_of ns nd lists d && ltb (destination_mix ns lists d) nm)
    (send_row n mixes (mix_offset mixes m + k % max (mix_buffers mixes m) 1) (destination_mix ns lists d) (mix_volume volumes m) (destination_volumes destinations d) buffers)
    buffers

module _ (n nm : ℕ) (mixes : List ℕ) (volumes : List Float) (ns nd : ℕ) (lists : List ℕ) (destinations : List Float) where
  -- sub-mix m runs: its buffers go to its destination, or by its splitter's list
  unfoldable pub run_mix : ℕ → List Float → List Float
  unfolding up_to send_buffer send_entry
  run_mix m buffers =
      cond (eqb (mix_destination mixes m) unused_mix)
      (cond (ltb (mix_splitter mixes m) ns)
      (up_to (λ k. send_entry n nm mixes volumes ns nd lists destinations m k (list_entry lists (mix_splitter mixes m) k)) (list_length lists (mix_splitter mixes m)) buffers)
      buffers)
      (cond (ltb (mix_destination mixes m) nm)
      (up_to (send_buffer n mixes volumes m (mix_destination mixes m)) (mix_buffers mixes m) buffers)
      buffers)
