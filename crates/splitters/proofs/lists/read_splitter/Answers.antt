-- `splitters::lists::read_splitter` meets its contract: the count is `count_of`. Assumes nothing.
use mathlib.Core.Path.{◌≡◌, ap, ◌∙◌}
use Prim.Native.Nat.{ℕ, min}
use Rattle.splitters.specs.Lists.{count_of, next_of, with_list, lists, splitter_step}
use Rattle.splitters.proofs.lists.read_splitter.Goals as goal

pub returns : goal.returns
unfolding splitter_step count_of
returns c =
    let e : c.min-n.result ≡ count_of c.args.nd c.args.d.now c.args.at = c.min-n.ensures ∙ ap (λ (x : ℕ). min x c.args.nd) c.u32_at.ensures in (
      (λ i. lists (c.next_place.ensures.0 i) (c.store_list.ensures i)) ∙ (λ i. lists (next_of (e i) c.args.d.now c.args.at) (with_list c.args.ns (e i) c.args.d.now c.args.at c.args.words.now)),
      c.next_place.ensures.1,
    )
