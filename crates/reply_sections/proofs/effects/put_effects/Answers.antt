-- `put_effects` meets its contract: an effect is put at each turn. Assumes nothing.
use mathlib.Core.Path.{ap, ◌∙◌}
use Prim.Native.Nat.{ℕ, ◌+◌, ◌*◌, ◌^◌, ◌≤◌, ◌<◌}
use native.Mathlib.Omega.{arith}
use lib.ListN.{length}
use Rattle.rows.specs.Rows.{put}
use Rattle.rows.specs.Tables.{join_begin, join_room, join_step, join_end}
use Rattle.reply_sections.specs.Effects.{effect_row, effect_at, length_effect_at, share_small}
use Rattle.reply_sections.proofs.effects.put_effects.Goals as goal
use Rattle.reply_sections.proofs.effects.put_effects.Goals.{In-loop-i}

-- the place of effect i's byte
share : (c : In-loop-i) → c.loop-i.i * c.args.stride_in < 2 ^ 38
share c =
    share_small _ _ _ c.loop-i-test.true c.requires.n_bound c.requires.stride_in_bound

-- effect i's row is inside
room : (c : In-loop-i) → c.args.at + c.loop-i.i * c.args.stride_out + c.args.stride_out ≤ length c.loop-i.out
room c = join_room c.loop-i.invariant (length_effect_at _ _ _) (omega arith) (omega arith)

pub loop-i-init : goal.loop-i-init
loop-i-init c = join_begin _ _ _ _ _ (omega arith)

pub overflow_mul-i : goal.overflow_mul-i
overflow_mul-i c = omega (arith, share c)

pub overflow_add-i : goal.overflow_add-i
overflow_add-i c = omega (arith, share c)

pub overflow_mul-i-in-loop-i : goal.overflow_mul-i-in-loop-i
overflow_mul-i-in-loop-i c = omega (arith, room (goal.at.overflow_mul-i-in-loop-i c).In-loop-i)

pub overflow_add-at : goal.overflow_add-at
overflow_add-at c = omega (arith, room (goal.at.overflow_add-at c).In-loop-i)

pub put_effect-requires : goal.put_effect-requires
put_effect-requires c = room (goal.at.put_effect-requires c).In-loop-i

pub loop-i-preserved : goal.loop-i-preserved
unfolding effect_at
loop-i-preserved c =
    let l = c.loop-i in
    join_step l.invariant (length_effect_at _ _ _) (omega arith) (omega arith)
    (c.put_effect.ensures ∙ ap (λ (v : ℕ). put l.out (c.args.at + l.i * c.args.stride_out) (effect_row c.args.stride_out v)) c.effect_state-state.ensures)

pub returns : goal.returns
returns c = join_end c.loop-i.invariant (length_effect_at _ _ _) (omega arith)
