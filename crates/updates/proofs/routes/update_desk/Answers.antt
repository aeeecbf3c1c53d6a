-- `updates::routes::update_desk` meets its contract: each update leaves a desk that the next can update. Assumes nothing.
use mathlib.Core.Path.{refl, sym, subst}
use native.Mathlib.Omega.{arith}
use Rattle.updates.specs.Update.{desk, DeskUpdatable}
use Rattle.updates.specs.DeskLaws.{lists_keep, mixes_keep, desk_done}
use Rattle.updates.proofs.routes.update_desk.Goals as goal

pub update_mixes-requires : goal.update_mixes-requires
update_mixes-requires c =
    subst (DeskUpdatable c.args.p) (sym c.update_splitters-size.ensures.floats_after) (lists_keep _ _ _ c.requires.updatable)

pub overflow_add-at-2 : goal.overflow_add-at-2
overflow_add-at-2 c =
    omega (arith, c.update_splitters-size.ensures.value.1, c.requires.near.splitters_at, c.requires.near.mixes_size)

pub update_sinks-requires : goal.update_sinks-requires
update_sinks-requires c =
    let between = subst (DeskUpdatable c.args.p) (sym c.update_splitters-size.ensures.floats_after) (lists_keep _ _ _ c.requires.updatable) in
    subst (DeskUpdatable c.args.p) (sym c.update_mixes.ensures) (mixes_keep _ _ _ between)

pub returns : goal.returns
returns c =
    desk_done c.args.p c.args.s c.args.input.now (desk c.args.words.now c.args.floats.now) c.rest.ensures c.update_splitters-size.ensures.floats_after c.update_splitters-size.ensures.value.0 refl
    c.section.ensures c.update_mixes.ensures c.section-sinks.ensures c.update_sinks.ensures
