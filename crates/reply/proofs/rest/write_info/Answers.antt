-- `write_info` meets its contract: by the revision. Assumes nothing.
use mathlib.Core.Path.{ap, sym, ◌∙◌}
use native.Mathlib.Omega.{arith}
use Rattle.rows.specs.Rows.{put}
use Rattle.params.specs.Laws.{info_some}
use Rattle.reply_sections.specs.Bytes.{zeros, put_none, put_padded}
use Rattle.reply.specs.Laws.{info_in, info_out}
use Rattle.reply.proofs.rest.write_info.Goals as goal

pub put_u64-requires : goal.put_u64-requires
put_u64-requires c =
    omega (arith, info_some c.args.p (omega arith))

pub fill-requires : goal.fill-requires
fill-requires c =
    omega (arith, info_some c.args.p (omega arith))

pub returns-then-revision_number-ge5 : goal.returns-then-revision_number-ge5
unfolding zeros
returns-then-revision_number-ge5 c =
    put_padded c.args.out.now c.args.at 8 c.args.elapsed 8 (omega (arith, info_some c.args.p (omega arith))) c.put_u64.ensures c.fill.ensures
    ∙ ap (put _ _) (sym (info_in _ _ (omega arith)))

pub returns-else-revision_number-ge5 : goal.returns-else-revision_number-ge5
returns-else-revision_number-ge5 c = put_none _ _ (omega arith) ∙ ap (put _ _) (sym (info_out _ _ (omega arith)))
