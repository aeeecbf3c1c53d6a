-- Pieces put one behind the other are put together as one. Assumes nothing.
use mathlib.Core.Path.{◌≡◌, ◌∙◌}
use mathlib.Core.List.{List, ◌++◌}
use Prim.Native.Nat.{ℕ, ◌+◌, ◌≤◌}
use native.Mathlib.Omega.{arith}
use lib.ListN.{length, length-append}
use Rattle.rows.specs.Rows.{put, put_more}

-- t is s with r, n long, in place of what stood from `at` on
pub record Laid (s : List ℕ) (at : ℕ) (r : List ℕ) (n : ℕ) (t : List ℕ) : Type 0 where
  pub size : length r ≡ n
  pub done : t ≡ put s at r

pub laid_first : {s : List ℕ} (at : ℕ) (r : List ℕ) (n : ℕ) {t : List ℕ} → length r ≡ n → t ≡ put s at r → Laid s at r n t
laid_first at r n l e = record { size = l; done = e }

module _ {s : List ℕ} {at : ℕ} {r : List ℕ} {n : ℕ} {t : List ℕ} (p : Laid s at r n t) where
  -- the next piece, q, m long
  pub laid_next : (q : List ℕ) (m : ℕ) {u : List ℕ} → length q ≡ m → at + (n + m) ≤ length s → u ≡ put t (at + n) q
      → Laid s at (r ++ q) (n + m) u
  laid_next q m l h e =
      let room : at + n + length q ≤ length s = omega arith in
      record { size = length-append r q ∙ (λ i. p.size i + l i); done = put_more s at n r q p.size room p.done e }
