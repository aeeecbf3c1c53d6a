-- `voice::any_valid` meets its contract: it asks each mark in turn. Assumes nothing.
use Rattle.std.proofs.Common.{◌≡◌, Bool, ◌||◌, List, [], ◌∷◌, refl, ap, ◌∙◌, rules, tests}
use Rattle.std.specs.List.{list_any}
use Rattle.std.proofs.lemmas.Iterator.{YieldsList-from_slice}
use Rattle.std.proofs.lemmas.Iterator.Search.{any_from_yields_List}
use Rattle.voice.specs.Prepare.{any_of}
use Rattle.voice.proofs.ready.any_valid.Goals as goal

any_same : (vs : List Bool) → list_any (λ b. b) vs ≡ any_of vs
any_same [] = refl
any_same (v ∷ vs) = ap (λ (b : Bool). v || b) (any_same vs)

pub returns : goal.returns
returns c =
    let vs = c.args.q.valid in
    any_from_yields_List (λ (b : Bool). b) _ _ _ c.any.ensures.ran (YieldsList-from_slice vs cc) (λ x b q k. search (rules, tests)) ∙ any_same vs
