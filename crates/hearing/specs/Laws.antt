-- What was played is what is heard: each channel's row is put in its place, and nothing is left of what stood there before.
-- Assumes nothing.
use Prim.Native.Nat.{ℕ, zero, suc, ◌+◌, ◌*◌, ◌≤◌}
use Rattle.std.proofs.Common.{le_refl, zero-add, add-one, arith, ◌∙◌, take_at, length-take-le}
use Rattle.std.specs.Prelude.{List, ◌++◌, ◌≡◌, Float, length, take}
use Rattle.std.proofs.Math.Path.{ap, sym, subst}
use Rattle.rows.specs.Rows.{part, put, length_part, put_all}
use Rattle.rows.specs.Folds.{up_to}
use Rattle.rows.specs.Tables.{joined, length_joined, Joining, join_begin, join_step, join_end}
use Rattle.resample.specs.Laws.{length_resampled}
use Rattle.sound_rows.specs.SoundRow.{sound_of}
use Rattle.playing.specs.Playing.{Material, channel_row, channel_out, out_step, played_out}
use Rattle.hearing.specs.Hearing.{sound_in, heard_out}

-- the history of a voice's sound has 18
pub length_sound_in : (k : ℕ) (contexts : List ℕ) (history : List Float) → k * 18 + 18 ≤ length history → length (sound_in k contexts history).history.samples ≡ 18
unfolding sound_in sound_of
length_sound_in k contexts history h =
    let row = length_part 18 (k * 18) history h in
    length_part 18 0 (part 18 (k * 18) history) (omega (arith, row))

module _ (w : Material) where
  pub length_channel : (c : ℕ) → length (channel_out w c) ≡ w.count
  unfolding channel_out
  length_channel c = length_resampled (channel_row w c) w.ratio w.fraction w.count

  pub length_heard : length (heard_out w) ≡ w.source.channels * w.count
  unfolding heard_out
  length_heard = length_joined w.count w.source.channels (channel_out w) length_channel

  -- the rows of the channels so far
  rows_joined : (out : List Float) → w.source.channels * w.count ≤ length out → (k : ℕ) → k ≤ w.source.channels
      → Joining out 0 w.source.channels w.count (channel_out w) (up_to (out_step w) k out) k
  unfolding up_to
  rows_joined out l zero h = join_begin out 0 w.source.channels w.count (channel_out w) (omega arith)
  rows_joined out l (suc k) h =
      let before = up_to (out_step w) k out in
      let at = ap (λ (a : ℕ). put before a (channel_out w k)) (sym (zero-add (k * w.count))) in
      subst (Joining out 0 w.source.channels w.count (channel_out w) (out_step w k before)) (add-one k)
      (join_step (rows_joined out l k (omega arith)) length_channel h (omega arith) at)

  pub played_all : (out : List Float) → length out ≡ w.source.channels * w.count → played_out w out ≡ heard_out w
  unfolding played_out heard_out
  played_all out e =
      let n = w.source.channels in
      join_end (rows_joined out (omega arith) n (le_refl n)) length_channel (le_refl n)
      ∙ put_all out (joined n (channel_out w)) (length_heard ∙ sym e)

  -- played in the first of the outputs, whatever stands after them
  pub played_front : (out rest : List Float) {after : List Float} → w.source.channels * w.count ≤ length out
      → after ≡ played_out w (take (w.source.channels * w.count) out) → take (w.source.channels * w.count) (after ++ rest) ≡ heard_out w
  played_front out rest l e =
      let n = w.source.channels * w.count in
      let heard = e ∙ played_all (take n out) (length-take-le n out l) in
      ap (λ (x : List Float). take n (x ++ rest)) heard ∙ take_at (heard_out w) rest n length_heard
