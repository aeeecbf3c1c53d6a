-- `pieces::chosen_record` meets its contract: by which of the two is in use. Assumes nothing.
use mathlib.Core.Path.{ap, sym, ◌∙◌}
use Rattle.voice_records.specs.Record.{record_used}
use Rattle.merging.proofs.Choosing.{chosen_first, chosen_second, chosen_none}
use Rattle.merging.proofs.pieces.chosen_record.Goals as goal

pub returns-then-record_used : goal.returns-then-record_used
returns-then-record_used c =
    let used = sym (ap record_used c.section-one.ensures) ∙ sym c.record_used.ensures ∙ c.if-record_used.true in
    c.section-one.ensures ∙ chosen_first c.args.d.now c.args.e.now c.args.k used

pub returns-then-record_used-2 : goal.returns-then-record_used-2
returns-then-record_used-2 c =
    let unused = sym (ap record_used c.section-one.ensures) ∙ sym c.record_used.ensures ∙ c.if-record_used.false in
    let used = sym (ap record_used c.section-other.ensures) ∙ sym c.record_used-2.ensures ∙ c.if-record_used-2.true in
    c.section-other.ensures ∙ chosen_second c.args.d.now c.args.e.now c.args.k unused used

pub returns-else-record_used-2 : goal.returns-else-record_used-2
returns-else-record_used-2 c =
    let unused = sym (ap record_used c.section-one.ensures) ∙ sym c.record_used.ensures ∙ c.if-record_used.false in
    let unused-2 = sym (ap record_used c.section-other.ensures) ∙ sym c.record_used-2.ensures ∙ c.if-record_used-2.false in
    chosen_none c.args.d.now c.args.e.now c.args.k unused unused-2
