-- `fields::rest` meets its contract: past the end nothing is left. Assumes nothing.
use Rattle.std.proofs.Common.{◌≡◌, refl, sym, ◌∙◌, Bool, true, false, List, ℕ, ◌-◌, ◌≤◌, ◌<◌, min, leb, leb-true, length, drop, arith, length-drop}
use Rattle.std.proofs.lemmas.Bool.{leb-false}
use Rattle.std.proofs.lemmas.List.{drop_all}
use Rattle.std.proofs.Math.Seq.{take_all}
use Rattle.fields.specs.Fields.{rest_of}
use Rattle.fields.proofs.rest.Goals as goal

-- what is behind the lesser of a place and the end
behind : (s : List ℕ) (at m : ℕ) (t : Bool) → leb at (length s) ≡ t → m ≡ min at (length s) → drop m s ≡ drop at s
behind s at m true h e =
    let l : at ≤ length s = leb-true _ _ h in
    let n : m ≡ at = omega arith in
    rw n refl
behind s at m false h e =
    let l : length s < at = leb-false _ _ h in
    drop_all m s (omega arith) ∙ sym (drop_all at s (omega arith))

pub returns : goal.returns
unfolding rest_of
returns c =
    let s = c.args.input.now in
    let m = c.min.result in
    take_all (length s - m) (drop m s) (simp length-drop (omega arith)) ∙ behind s c.args.at m _ refl c.min.ensures
