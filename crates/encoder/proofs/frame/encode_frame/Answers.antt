-- `encoder::frame::encode_frame` meets its contract: the header that is kept, and the nibbles put behind it. Assumes nothing.
use mathlib.Core.Path.{◌≡◌, ap, ◌∙◌}
use Prim.Native.Nat.{ℕ}
use native.Mathlib.Omega.{arith}
use mathlib.Core.List.{List}
use lib.IntN.{ℤ}
use mir.Syntax.{w16}
use mir.Val.{to_z, of_z}
use Rattle.adpcm.proofs.Ints.{back}
use Rattle.trial.proofs.Keeping.{keeps_by}
use Rattle.trial.specs.Trial.{pair_first, pair_second}
use Rattle.encoder.proofs.WholeFrame.{header_put, frames_are, puts_by}
use Rattle.encoder.proofs.frame.encode_frame.Goals as goal
use Rattle.encoder.proofs.frame.encode_frame.Goals.{After-put_nibbles-y}

module _ (c : After-put_nibbles-y) where
  abbrev k : List ℤ
  k = c.args.coefficients.now

  abbrev b : ℕ
  b = c.keep_header-kept.result.header

  -- the context's samples and the pair as they are passed, and as the contract has them
  zero_is : to_z w16 (of_z w16 c.args.ctx.history0) ≡ c.args.ctx.history0
  zero_is = back w16 c.args.ctx.history0 (omega arith)

  one_is : to_z w16 (of_z w16 c.args.ctx.history1) ≡ c.args.ctx.history1
  one_is = back w16 c.args.ctx.history1 (omega arith)

  first_is : to_z w16 (of_z w16 c.pair-c.result.0) ≡ pair_first k b
  first_is = back w16 c.pair-c.result.0 (omega arith) ∙ c.pair-c.ensures.first ∙ ap (pair_first k) c.from.ensures

  second_is : to_z w16 (of_z w16 c.pair-c.result.1) ≡ pair_second k b
  second_is = back w16 c.pair-c.result.1 (omega arith) ∙ c.pair-c.ensures.second ∙ ap (pair_second k) c.from.ensures

pub returns : goal.returns
returns c =
    let l = c.put_nibbles-y.result in
    let last-is = back w16 l.0 (omega arith) in
    let before-is = back w16 l.1 (omega arith) in
    rw c.from-3.ensures (frames_are _ _ _ _ _ _ _ _ _ (keeps_by (zero_is (goal.at.returns c).After-put_nibbles-y) (one_is (goal.at.returns c).After-put_nibbles-y) c.keep_header-kept.ensures)
    (puts_by _ _ (first_is (goal.at.returns c).After-put_nibbles-y) (second_is (goal.at.returns c).After-put_nibbles-y) (zero_is (goal.at.returns c).After-put_nibbles-y) (one_is (goal.at.returns c).After-put_nibbles-y) last-is before-is (rw c.from-2.ensures at c.put_nibbles-y.ensures))
    (header_put c.args.out.now _ _ (omega (arith, c.requires.1))))
