-- `voices::voices_whole` meets its contract: each voice is tested. Assumes nothing.
use Rattle.std.proofs.Common.{◌≡◌, true, false, rules, refl}
use native.Mathlib.Nat.{sub-zero}
use Rattle.std.proofs.lemmas.Iterator.{cases_from_all, YieldsList-from_range}
use Rattle.row_tests.specs.Ranges.{range_all}
use Rattle.row_tests.specs.Voices.{voice_whole, voices_whole}
use Rattle.row_tests.proofs.voices.voices_whole.Goals as goal

pub returns : goal.returns
unfolding voices_whole
returns c =
    let p = voice_whole c.args.n c.args.words.now c.args.floats.now in
    range_all p c.args.n _ (cases_from_all _ _ _ (λ i. true ≡ p i) (λ i. false ≡ p i) c.all.ensures.ran
    (YieldsList-from_range 0 c.args.n c.args.n refl (sub-zero c.args.n)) (λ x r k. search rules) (λ x r k. search rules))
