-- `plan::context_read` meets its contract: each way out is a case of the tests. Assumes nothing.
use Rattle.std.proofs.Common.{Bool, ap, ◌∙◌, eq-eqb, ne_eqb}
use Rattle.std.specs.Bool.{then_some}
use Rattle.plan.specs.Rounds.{renews_of}
use Rattle.plan.proofs.rounds.context_read.Goals as goal

pub returns-then-offset-ne0 : goal.returns-then-offset-ne0
unfolding renews_of
returns-then-offset-ne0 c = simp (ne_eqb _ _ c.if-offset-ne0.true)

pub returns-then-s-ne-ADPCM : goal.returns-then-s-ne-ADPCM
unfolding renews_of
returns-then-s-ne-ADPCM c = simp (eq-eqb _ _ c.if-offset-ne0.false, ne_eqb _ _ c.if-s-ne-ADPCM.true)

pub returns-then-wb-eq0 : goal.returns-then-wb-eq0
unfolding renews_of
returns-then-wb-eq0 c = simp (eq-eqb _ _ c.if-offset-ne0.false, eq-eqb _ _ c.if-s-ne-ADPCM.false, eq-eqb _ _ c.if-wb-eq0.true)

pub returns : goal.returns
unfolding renews_of
returns c =
    simp (eq-eqb _ _ c.if-offset-ne0.false, eq-eqb _ _ c.if-s-ne-ADPCM.false, ne_eqb _ _ c.if-wb-eq0.false)
    (c.then_some.ensures ∙ ap (λ (b : Bool). then_some b c.args.wb.context) c.readable.ensures)
