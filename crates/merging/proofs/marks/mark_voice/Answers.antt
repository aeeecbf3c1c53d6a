-- `marks::mark_voice` meets its contract, by whether the record is in use. Assumes nothing.
use mathlib.Core.Bool.{Bool, cond}
use mathlib.Core.List.{List}
use mathlib.Core.Path.{ap, sym, ◌∙◌}
use Prim.Native.Nat.{ℕ}
use native.Mathlib.Omega.{arith}
use Rattle.voice_records.specs.Record.{record_used}
use Rattle.voices.specs.Voices.{record_at}
use Rattle.merging.specs.Marks.{marked_by, marked_at}
use Rattle.merging.proofs.marks.mark_voice.Goals as goal

pub mark_record-requires : goal.mark_record-requires
mark_record-requires c =
    (omega (arith, c.requires.0), omega (arith, c.requires.1, c.requires.2))

pub returns-then-record_used : goal.returns-then-record_used
unfolding marked_at
returns-then-record_used c =
    let used = sym (ap record_used c.section-e.ensures) ∙ sym c.record_used.ensures ∙ c.if-record_used.true in
    let m = c.args.marks.now in
    c.mark_record.ensures
    ∙ ap (λ (e : List ℕ). marked_by c.args.n e m) c.section-e.ensures
    ∙ ap (λ (u : Bool). cond u (marked_by c.args.n (record_at c.args.d.now c.args.k) m) m) (sym used)

pub returns-else-record_used : goal.returns-else-record_used
unfolding marked_at
returns-else-record_used c =
    let used = sym (ap record_used c.section-e.ensures) ∙ sym c.record_used.ensures ∙ c.if-record_used.false in
    ap (λ (u : Bool). cond u (marked_by c.args.n (record_at c.args.d.now c.args.k) c.args.marks.now) c.args.marks.now) (sym used)
