-- A reply that is written section by section: what is put so far. Assumes nothing.
use Rattle.std.specs.Prelude.{◌≡◌, List, ◌++◌, ℕ, ◌+◌, ◌≤◌, length}
use Rattle.std.proofs.Common.{ap, ◌∙◌, arith, length-append}
use Rattle.rows.specs.Rows.{put, put_more, length_put}

-- `t` is `s` with `r`, n long, put at `at`
pub record Written (s : List ℕ) (at n : ℕ) (r t : List ℕ) : Type 0 where
  pub long : length r ≡ n
  pub size : length t ≡ length s
  pub stored : t ≡ put s at r

pub written_first : (s : List ℕ) (at : ℕ) (r : List ℕ) {n : ℕ} {t : List ℕ} → length r ≡ n → at + n ≤ length s → t ≡ put s at r → Written s at n r t
written_first s at r l h e =
    let f : at + length r ≤ length s = omega arith in
    record { long = l; size = ap length e ∙ length_put s at r f; stored = e }

-- the next section, put right behind what is written
pub written_more : {s : List ℕ} {at n : ℕ} {r t : List ℕ} → Written s at n r t → (q : List ℕ) {u : List ℕ} {to m : ℕ} → to ≡ at + n → length q ≡ m
    → at + n + m ≤ length s → u ≡ put t to q → Written s at (n + m) (r ++ q) u
written_more {s} {at} {n} {r} {t} w q {u} {to} eat lq h e =
    let f : at + n + length q ≤ length s = omega arith in
    let g : to + length q ≤ length t = omega (arith, w.size) in
    record {
      long = length-append r q ∙ (λ i. w.long i + lq i);
      size = ap length e ∙ length_put t to q g ∙ w.size;
      stored = put_more s at n r q w.long f w.stored (e ∙ ap (λ (k : ℕ). put t k q) eat);
    }
