-- What holds of a turn: how many samples and rounds it takes at most, and that the voice after it can take another. Assumes nothing.
use Rattle.std.specs.Prelude.{◌≡◌, ℕ, ◌<◌, ◌≤◌, cond, T}
use Rattle.std.proofs.Common.{◌∙◌}
use Rattle.std.specs.Float.Ieee.{le}
use Rattle.floats.specs.Defs.{zero32, one, sixteen}
use Rattle.floats.specs.Bounds.{ratio_in}
use Rattle.floats.specs.Unit.{in_unit}
use Rattle.resample.specs.Range.{needed_le, next_unit}
use Rattle.plan.specs.Rounds.{has_table}
use Rattle.plan.specs.Fits.{plan_rounds, plan_table, index_lt}
use Rattle.voice.specs.declared.Voice.{Voice}
use Rattle.voice.specs.Voice.{queue_of}
use Rattle.turn.specs.Render.{Render}
use Rattle.turn.specs.declared.Turn.{Turn}
use Rattle.turn.specs.Turn.{skips_conversion, speed_of, ratio_of, source_of, needed_by, planned_by, fraction_of, finished, turn_of, told}

-- the ratio is in [0, 16]
pub ratio_range : (rate : ℕ) (v : Voice) → T (le zero32 (ratio_of rate v)) × T (le (ratio_of rate v) sixteen)
unfolding ratio_of
ratio_range rate v = ratio_in (cond (skips_conversion v.decoding) one (speed_of rate v))

module _ (v : Voice) (r : Render) (f : T (in_unit v.fraction)) (n : r.sample_count ≤ 256) where
  pub needed_few : (turn_of v r).needed ≤ 4097
  unfolding turn_of needed_by
  needed_few = let i = ratio_range r.sample_rate v in needed_le v.fraction (ratio_of r.sample_rate v) r.sample_count f i.0 i.1 n

  pub fraction_unit : T (in_unit (turn_of v r).voice.fraction)
  unfolding turn_of finished fraction_of
  fraction_unit = let i = ratio_range r.sample_rate v in next_unit v.fraction (ratio_of r.sample_rate v) r.sample_count f i.0 i.1 n

module _ (v : Voice) (r : Render) where
  pub rounds_few : (turn_of v r).plan.rounds ≤ 64
  unfolding turn_of planned_by
  rounds_few = plan_rounds (queue_of v) (source_of v r) (needed_by v r)

  pub index_kept : v.index < 4 → (turn_of v r).voice.index < 4
  unfolding turn_of finished planned_by
  index_kept = index_lt (queue_of v) (source_of v r) (needed_by v r)

-- whether the coefficients can be read, as the code's turn says
pub turn_table : (v : Voice) (r : Render) (t : Turn) → t ≡ told (turn_of v r) → t.plan.table ≡ has_table (source_of v r)
unfolding turn_of planned_by
turn_table v r t e = (λ i. (e i).plan.table) ∙ plan_table (queue_of v) (source_of v r) (needed_by v r)
