-- Rows put in place of as many. Assumes nothing.
use Rattle.std.specs.Prelude.{◌≡◌, List, ℕ, ◌+◌, ◌≤◌, length}
use Rattle.std.proofs.Common.{ap, sym, ◌∙◌}
use Rattle.rows.specs.Rows.{part, put, length_put, part_put_same, part_put_before, part_put_after}
use Rattle.params.specs.Params.{params_of, params_part}

-- w elements from `a` on

module _ {ℓ} {A : Type ℓ} (s : List A) (a w : ℕ) (r : List A) (long : length r ≡ w) (room : a + w ≤ length s) where
  fits : a + length r ≤ length s
  fits = rw long room

  pub put_long : length (put s a r) ≡ length s
  put_long = length_put s a r fits

  pub put_same : part w a (put s a r) ≡ r
  put_same = part_put_same s a r fits w long

  pub put_before : (v b : ℕ) → b + v ≤ a → part v b (put s a r) ≡ part v b s
  put_before = part_put_before s a r fits

  pub put_after : (v b : ℕ) → a + w ≤ b → part v b (put s a r) ≡ part v b s
  put_after v b h = part_put_after s a r fits v b (rw long h)

-- the parameters come before all rows
pub put_params : (s : List ℕ) (a w : ℕ) (r : List ℕ) → length r ≡ w → a + w ≤ length s → 10 ≤ a → params_of (put s a r) ≡ params_of s
put_params s a w r long room h = sym (params_part (put s a r)) ∙ ap params_of (put_before s a w r long room 10 0 h) ∙ params_part s
