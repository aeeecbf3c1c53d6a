-- `memory::give` meets its contract: each way out is one case of where the place lies. Assumes nothing.
use Prim.Native.Nat.{ℕ, ◌+◌, ◌-◌, ◌≤◌, min}
use mathlib.Core.Bool.{true, false}
use mathlib.Core.List.{List, ◌++◌}
use mathlib.Core.Path.{◌≡◌, ap, sym, ◌∙◌}
use native.Mathlib.Omega.{arith}
use lib.ListN.{length, take, drop, length-take}
use Rattle.rows.specs.Rows.{part}
use Rattle.ranges.specs.Ranges.{Range, has, room_in}
use Rattle.ranges.proofs.Holds.{holds_inside, holds_below, holds_past}
use Rattle.memory.specs.Memory.{piece_of}
use Rattle.memory.specs.Given.{Given}
use Rattle.memory.proofs.Pieces.{piece_here, piece_there, piece_wide}
use Rattle.memory.proofs.give.Goals as goal

module _ (r : Range) (m : List ℕ) (at : ℕ) (out : List ℕ) where
  given_none : has r at ≡ false → Given r m at out 0 out
  given_none t =
      let piece = piece_there r m at (length out) t in
      record { count = sym (ap length piece); made = λ i. sym piece i ++ out }

  given_some : {n : ℕ} {after : List ℕ} → r.start + r.size ≤ length m → has r at ≡ true → n ≡ min (length out) (room_in r at)
      → after ≡ take n (drop (r.start + (at - r.base)) m) ++ drop n out → Given r m at out n after
  given_some {n} part t e made =
      let from = drop (r.start + (at - r.base)) m in
      let piece : take n from ≡ piece_of r m at (length out) = ap (λ (k : ℕ). take k from) e ∙ sym (piece_here r m at (length out) t) in
      record { count = e ∙ sym (piece_wide r m at (length out) part t); made = made ∙ (λ i. piece i ++ drop n out) }

pub returns-then-at-base : goal.returns-then-at-base
returns-then-at-base c =
    given_none _ _ _ _ (holds_below c.args.base c.args.size c.args.at (omega arith))

pub returns-then-size-gone : goal.returns-then-size-gone
returns-then-size-gone c =
    given_none _ _ _ _ (holds_past c.args.base c.args.size c.args.at (omega arith) (omega arith))

pub returns : goal.returns
unfolding part
returns c =
    let held = holds_inside c.args.base c.args.size c.args.at (omega arith) (omega arith) in
    let from = c.args.start + (c.args.at - c.args.base) in
    let wide : length (take c.min-n.result c.args.out.now) ≡ c.min-n.result = simp length-take (omega arith) in
    let cut = c.copy_out.ensures ∙ ap (λ (k : ℕ). take k (drop from c.args.memory.now)) wide in
    given_some _ _ _ _ c.requires held c.min-n.ensures (λ i. cut i ++ drop c.min-n.result c.args.out.now)
