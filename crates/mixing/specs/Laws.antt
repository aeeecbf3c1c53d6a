-- The mixes of an order one by one, the final mix's volume by cases, and the length of the buffers, which none of them changes. Assumes nothing.
use Rattle.std.specs.Prelude.{◌≡◌, true, false, length, get_or, take, Float}
use Rattle.std.proofs.Math.Path.{refl, ap, sym}
use Rattle.std.proofs.Common.{◌∙◌, add-one, length-append, take-append-drop}
use mathlib.Core.List.{List, [], ◌∷◌, ◌++◌, map}
use Prim.Native.Nat.{ℕ, ◌+◌, ◌*◌, min, ◌<◌}
use Rattle.std.proofs.Math.ListN.{drop}
use Rattle.std.proofs.lemmas.List.{length-map}
use Rattle.std.proofs.Math.Seq.{drop-cons}
use Rattle.std.specs.Float.Ieee.{eq, mul}
use Rattle.std.specs.Float.{binary32}
use Rattle.floats.specs.Defs.{one}
use Rattle.desk_rows.specs.DeskRows.{mix_buffers}
use Rattle.desk_order.specs.DeskOrder.{mix_order}
use Rattle.sub_mix.specs.SubMix.{mix_volume, run_mix}
use Rattle.sub_mix.specs.Laws.{either_length, length_run_mix}
use Rattle.mixing.specs.Mixing.{run_mixes, scaled, final_volume, mixed_down}

module _ (n nm : ℕ) (mixes : List ℕ) (volumes : List Float) (ns nd : ℕ) (lists : List ℕ) (destinations : List Float) where
  -- the next of an order
  pub next_run : (order : List ℕ) (k : ℕ) (buffers : List Float) {u : List Float} → k < length order
      → u ≡ run_mix n nm mixes volumes ns nd lists destinations (get_or order k 0) buffers
      → run_mixes n nm mixes volumes ns nd lists destinations (drop (k + 1) order) u ≡ run_mixes n nm mixes volumes ns nd lists destinations (drop k order) buffers
  unfolding run_mixes
  next_run order k buffers h e = rw (add-one, drop-cons order k 0 h, e)

  pub length_run_mixes : (ms : List ℕ) (buffers : List Float) → length (run_mixes n nm mixes volumes ns nd lists destinations ms buffers) ≡ length buffers
  unfolding run_mixes
  length_run_mixes [] buffers = refl
  length_run_mixes (m ∷ ms) buffers = length_run_mixes ms (run_mix n nm mixes volumes ns nd lists destinations m buffers) ∙ length_run_mix n nm mixes volumes ns nd lists destinations m buffers

-- ---- the final mix's volume
pub length_scaled : (v : Float) (k : ℕ) (xs : List Float) → length (scaled v k xs) ≡ length xs
unfolding scaled
length_scaled v k xs = rw (length-append, length-map) (sym (length-append (take k xs) (drop k xs)) ∙ ap length (take-append-drop k xs))

module _ (n : ℕ) (mixes : List ℕ) (volumes buffers : List Float) where
  pub final_one : eq (mix_volume volumes 0) one ≡ true → final_volume n mixes volumes buffers ≡ buffers
  unfolding final_volume
  final_one e = rw e

  pub final_scaled : eq (mix_volume volumes 0) one ≡ false
      → final_volume n mixes volumes buffers ≡ scaled (mix_volume volumes 0) (min (mix_buffers mixes 0 * n) (length buffers)) buffers
  unfolding final_volume
  final_scaled e = rw e

  -- what a loop over the first k samples makes
  pub final_from : {k count : ℕ} {r : List Float} → eq (mix_volume volumes 0) one ≡ false → count ≡ mix_buffers mixes 0 → k ≡ min (count * n) (length buffers)
      → r ≡ map (λ x. mul binary32 x (mix_volume volumes 0)) (take k buffers) → r ++ drop k buffers ≡ final_volume n mixes volumes buffers
  unfolding scaled
  final_from {k} v c e h =
      ap (λ (x : List Float). x ++ drop k buffers) h
      ∙ ap (λ (i : ℕ). scaled (mix_volume volumes 0) i buffers) (e ∙ ap (λ (x : ℕ). min (x * n) (length buffers)) c)
      ∙ sym (final_scaled v)

  pub length_final_volume : length (final_volume n mixes volumes buffers) ≡ length buffers
  unfolding final_volume
  length_final_volume =
      either_length (eq (mix_volume volumes 0) one) _ _ refl (length_scaled (mix_volume volumes 0) (min (mix_buffers mixes 0 * n) (length buffers)) buffers)

-- `render_mixes` keeps the buffers' length
pub length_mixed_down : (n nm : ℕ) (mixes : List ℕ) (volumes : List Float) (ns nd : ℕ) (lists : List ℕ) (destinations buffers : List Float)
    → length (mixed_down n nm mixes volumes ns nd lists destinations buffers) ≡ length buffers
unfolding mixed_down
length_mixed_down n nm mixes volumes ns nd lists destinations buffers =
    length_final_volume n mixes volumes (run_mixes n nm mixes volumes ns nd lists destinations (mix_order nm ns nd mixes lists) buffers)
    ∙ length_run_mixes n nm mixes volumes ns nd lists destinations (mix_order nm ns nd mixes lists) buffers

-- from what is made on the way
pub mixed_down_from : (n nm : ℕ) (mixes : List ℕ) (volumes : List Float) (ns nd : ℕ) (lists : List ℕ) (destinations buffers : List Float)
    → {order : List ℕ} {b u : List Float} → order ≡ mix_order nm ns nd mixes lists → b ≡ run_mixes n nm mixes volumes ns nd lists destinations order buffers
    → u ≡ final_volume n mixes volumes b → u ≡ mixed_down n nm mixes volumes ns nd lists destinations buffers
unfolding mixed_down
mixed_down_from n nm mixes volumes ns nd lists destinations buffers o r f =
    f ∙ ap (final_volume n mixes volumes) (r ∙ ap (λ (ms : List ℕ). run_mixes n nm mixes volumes ns nd lists destinations ms buffers) o)
