-- `apart::voices_apart` meets its contract: each is tested in turn. Assumes nothing.
use Rattle.std.proofs.Common.{◌≡◌, ℕ, Bool, true, false, not, ◌&&◌, rules, refl}
use native.Mathlib.Nat.{sub-zero}
use Rattle.std.proofs.lemmas.Iterator.{cases_from_all, YieldsList-from_range}
use Rattle.row_tests.specs.Ranges.{range_all}
use Rattle.merging.specs.Merge.{used_at, voices_apart}
use Rattle.merging.proofs.apart.voices_apart.Goals as goal

pub returns : goal.returns
unfolding voices_apart
returns c =
    let p : ℕ → Bool = λ k. not (used_at c.args.d.now k && used_at c.args.e.now k) in
    range_all p c.args.n _ (cases_from_all _ _ _ (λ i. true ≡ p i) (λ i. false ≡ p i) c.all.ensures.ran
    (YieldsList-from_range 0 c.args.n c.args.n refl (sub-zero c.args.n)) (λ x r k. search rules) (λ x r k. search rules))
