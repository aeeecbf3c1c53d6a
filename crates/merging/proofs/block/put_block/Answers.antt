-- `block::put_block` meets its contract: the size is known first, then the pieces are put. Assumes nothing.
use mathlib.Core.Path.{◌≡◌, sym, ap, ◌∙◌}
use Prim.Native.Nat.{◌+◌, ◌≤◌}
use native.Mathlib.Omega.{arith}
use lib.ListN.{length}
use Rattle.fields.specs.Fields.{rest_of}
use Rattle.params.specs.declared.sections.Sections.{Sections}
use Rattle.merging.specs.Merge.{title_sections, behind_voices, merged_block}
use Rattle.merging.specs.Answer.{merge_left}
use Rattle.merging.proofs.Asked.{done_fits, done_short}
use Rattle.merging.proofs.Laying.{size_is, block_laid}
use Rattle.merging.proofs.block.put_block.Goals as goal
use Rattle.merging.proofs.block.put_block.Goals.{After-rest-rest, After-title_sections-s}

-- the behaviour and the pools together, and what stands behind the voices
pools : (c : After-title_sections-s)
    → (let t = title_sections c.args.title.now in
    c.title_sections-s.result.behavior_size + c.title_sections-s.result.pools_size ≡ t.behavior_size + t.pools_size)
pools c = λ i. (c.title_sections-s.ensures.value i).behavior_size + (c.title_sections-s.ensures.value i).pools_size

rest : (c : After-rest-rest)
    → c.rest-rest.result.now ≡ behind_voices c.args.title.now
rest c =
    let title = c.args.title.now in
    c.rest-rest.ensures ∙ ap (λ (s : Sections). rest_of title s.effects_at) c.title_sections-s.ensures.value

pub returns-then-output-size : goal.returns-then-output-size
returns-then-output-size c =
    let size = size_is c.args.n c.args.title.now c.args.click.now (pools (goal.at.returns-then-output-size c).After-title_sections-s) (rest (goal.at.returns-then-output-size c).After-rest-rest) in
    sym (done_short (merged_block c.args.n c.args.title.now c.args.click.now) c.args.output.now (omega (arith, c.if-output-size.true, size)))

pub put_front-requires : goal.put_front-requires
put_front-requires c = record { n_bound = c.requires.0; pools_value = pools (goal.at.put_front-requires c).After-title_sections-s; pools_in_bounds = omega (arith, c.if-output-size.false) }

pub returns : goal.returns
returns c =
    let t = c.args.title.now in
    let u = c.args.click.now in
    let out = c.args.output.now in
    let size = size_is c.args.n t u (pools (goal.at.returns c).After-title_sections-s) (rest (goal.at.returns c).After-rest-rest) in
    let fits : length (merged_block c.args.n t u) ≤ length out = omega (arith, c.if-output-size.false, size) in
    let laid =
    block_laid c.args.n t u (pools (goal.at.returns c).After-title_sections-s) (rest (goal.at.returns c).After-rest-rest) out (omega (arith, fits, size)) c.put_front.ensures
    c.put_sections.ensures c.copy_in.ensures in
    (λ i. merge_left 0 (size i) (laid i)) ∙ sym (done_fits (merged_block c.args.n t u) out fits)
