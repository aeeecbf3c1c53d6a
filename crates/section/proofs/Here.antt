-- The word at a reader's place: told of another reader of the same block, and at a place that went past every number. Assumes nothing.
use Rattle.std.proofs.Common.{◌≡◌, ◌+◌, ◌-◌, ◌^◌, ◌≤◌, ◌<◌, ◌∙◌, ℕ, List, Bor, length, min, ap, sym, arith}
use Rattle.std.proofs.Math.Logic.{⊎_elim}
use Rattle.std.proofs.Math.Nat.{add-zero, eq-or-lt_of_le}
use Rattle.fields.specs.Fields.{field_at}
use Rattle.fields.specs.Reads.{field_out}

pub here : {b b' : Bor (List ℕ)} (at : ℕ) {n : ℕ} → b ≡ b' → n ≡ field_at 4 b.now (at + 0) → n ≡ field_at 4 b'.now at
here at e read = read ∙ (λ i. field_at 4 (e i).now (add-zero at i))

-- the largest number is past any end, as the place itself is then
pub saturated : (d : List ℕ) (at : ℕ) {p : ℕ} → length d < 2 ^ 64 → p ≡ min at (2 ^ 64 - 1) → field_at 4 d p ≡ field_at 4 d at
saturated d at {p} h e =
    let below : p ≤ at = omega arith in
    ⊎_elim (λ (s : p ≡ at). ap (field_at 4 d) s)
    (λ (l : p < at). field_out 4 d p (omega arith) ∙ sym (field_out 4 d at (omega arith)))
    (eq-or-lt_of_le below)
