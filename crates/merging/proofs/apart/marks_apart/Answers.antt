-- `apart::marks_apart` meets its contract: each is tested in turn. Assumes nothing.
use Rattle.std.proofs.Common.{◌≡◌, ℕ, Bool, true, false, not, ◌&&◌, get_or, rules, tests, refl}
use native.Mathlib.Nat.{sub-zero}
use Rattle.std.proofs.lemmas.Iterator.{cases_from_all, YieldsList-from_range}
use Rattle.row_tests.specs.Ranges.{range_all}
use Rattle.merging.proofs.apart.marks_apart.Goals as goal

pub returns : goal.returns
returns c =
    let p : ℕ → Bool = λ j. not (get_or c.args.a.now j false && get_or c.args.b.now j false) in
    range_all p c.args.n _ (cases_from_all _ _ _ (λ i. true ≡ p i) (λ i. false ≡ p i) c.all.ensures.ran
    (YieldsList-from_range 0 c.args.n c.args.n refl (sub-zero c.args.n)) (λ x r k. search (rules, tests)) (λ x r k. search (rules, tests)))
