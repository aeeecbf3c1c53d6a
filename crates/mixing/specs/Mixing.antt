-- What `render_mixes` makes of the mix buffers. Definitions only.
use Rattle.std.specs.Prelude.{cond, ℕ, ◌*◌, min, length, take, drop, Float}
use mathlib.Core.List.{List, [], ◌∷◌, ◌++◌, map}
use Rattle.std.specs.Float.{binary32}
use Rattle.std.specs.Float.Ieee.{eq, mul}
use Rattle.floats.specs.Defs.{one}
use Rattle.desk_rows.specs.DeskRows.{mix_buffers}
use Rattle.desk_order.specs.DeskOrder.{mix_order}
use Rattle.sub_mix.specs.SubMix.{mix_volume, run_mix}

module _ (n nm : ℕ) (mixes : List ℕ) (volumes : List Float) (ns nd : ℕ) (lists : List ℕ) (destinations : List Float) where
  -- sub_mixes run, one after the other
  unfoldable pub run_mixes : List ℕ → List Float → List Float
  unfolding run_mix
  run_mixes [] buffers = buffers
  run_mixes (m ∷ ms) buffers = run_mixes ms (run_mix n nm mixes volumes ns nd lists destinations m buffers)

-- the first k samples, each times v
unfoldable pub scaled : Float → ℕ → List Float → List Float
scaled v k xs = map (λ x. mul binary32 x v) (take k xs) ++ drop k xs

-- the final mix's volume, on its buffers: they come first. A volume of 1 changes nothing.
unfoldable pub final_volume : ℕ → List ℕ → List Float → List Float → List Float
unfolding scaled
final_volume n mixes volumes buffers =
    cond (eq (mix_volume volumes 0) one) buffers (scaled (mix_volume volumes 0) (min (mix_buffers mixes 0 * n) (length buffers)) buffers)

-- `render_mixes`: the sub_mixes in their order, then the final mix's volume
unfoldable pub mixed_down : ℕ → ℕ → List ℕ → List Float → ℕ → ℕ → List ℕ → List Float → List Float → List Float
unfolding mix_order run_mixes final_volume
mixed_down n nm mixes volumes ns nd lists destinations buffers =
    final_volume n mixes volumes (run_mixes n nm mixes volumes ns nd lists destinations (mix_order nm ns nd mixes lists) buffers)
