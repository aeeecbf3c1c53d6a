-- `idle_row::flags_stored` meets its contract: each flag is tested. Assumes nothing.
use Rattle.std.proofs.Common.{◌+◌, ◌≤◌, get_or, rules, tests, refl}
use Rattle.std.specs.Bool.{⊤}
use Rattle.std.proofs.lemmas.Iterator.{cases_from_all, YieldsList-from_range}
use Rattle.voice_rows.proofs.Each.{each_of_four}
use Rattle.voice_rows.proofs.idle_row.flags_stored.Goals as goal

pub returns : goal.returns
returns c =
    each_of_four _ _ (cases_from_all _ _ _ (λ k. get_or c.args.words.now (c.args.at + k) 0 ≤ 1) (λ _. ⊤) c.all.ensures.ran
    (YieldsList-from_range 0 4 4 refl refl) (λ x r k. search (rules, tests)) (λ x r k. tt))
