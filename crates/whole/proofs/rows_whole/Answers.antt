-- `whole::rows_whole` meets its contract: what is lent are the rows of a kind, and each kind is tested. Assumes nothing.
use Rattle.std.proofs.Common.{arith}
use Rattle.std.proofs.lemmas.Grind.{common_steps}
use Rattle.row_tests.specs.Tests.{every}
use Rattle.whole.specs.Lent.{voices_lent, mixes_lent_lem, sinks_lent, lists_lent_lem}
use Rattle.whole.specs.Whole.{rows_whole}
use Rattle.whole.proofs.rows_whole.Goals as goal

pub returns-then-sinks_whole : goal.returns-then-sinks_whole
unfolding rows_whole every
returns-then-sinks_whole c =
    let voices = voices_lent c.requires.at c.args.words.now c.args.floats.now in
    let mixes = mixes_lent_lem c.requires.at c.args.words.now in
    let sinks = sinks_lent c.requires.at c.args.words.now in
    let lists = lists_lent_lem c.requires.at c.args.words.now in
    grind (arith, common_steps, voices, mixes, sinks, lists)

pub returns-else-sinks_whole : goal.returns-else-sinks_whole
unfolding rows_whole every
returns-else-sinks_whole c =
    let voices = voices_lent c.requires.at c.args.words.now c.args.floats.now in
    let mixes = mixes_lent_lem c.requires.at c.args.words.now in
    let sinks = sinks_lent c.requires.at c.args.words.now in
    grind (arith, common_steps, voices, mixes, sinks)
