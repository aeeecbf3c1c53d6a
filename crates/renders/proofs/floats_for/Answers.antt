-- `renders::floats_for` meets its contract: the product fits. Assumes nothing.
use native.Mathlib.Nat.{le_refl, mul-le-mul}
use borrow.Author.Rules.{rules}
use Rattle.renders.proofs.floats_for.Goals as goal

pub overflow_mul-result-2 : goal.overflow_mul-result-2
overflow_mul-result-2 c =
    let two = mul-le-mul (le_refl 2) c.requires.fact_1 in
    let few = mul-le-mul c.requires.fact_2 two in
    search (rules, few)
