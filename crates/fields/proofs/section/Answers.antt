-- `fields::section` meets its contract: inside, the part from `at` to `at + size`. Assumes nothing.
use Rattle.std.proofs.Common.{◌≡◌, sym, ap, ◌∙◌, ℕ, ◌+◌, ◌-◌, take, drop, arith}
use Rattle.fields.specs.Sections.{section_in, section_out}
use Rattle.fields.proofs.Answers.{passed, failed}
use Rattle.fields.proofs.section.Goals as goal

pub returns-then-inside : goal.returns-then-inside
returns-then-inside c =
    let n : c.args.at + c.args.size - c.args.at ≡ c.args.size = omega arith in
    ap (λ (k : ℕ). take k (drop c.args.at c.args.input.now)) n ∙ sym (section_in _ _ _ (passed _ _ c.inside.ensures c.if-inside.true))

pub returns-else-inside : goal.returns-else-inside
returns-else-inside c = sym (section_out _ _ _ (failed _ _ c.inside.ensures c.if-inside.false))
