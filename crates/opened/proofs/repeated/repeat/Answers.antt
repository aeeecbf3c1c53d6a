-- `repeat` meets its contract: a row is put at each turn. Assumes nothing.
use mathlib.Core.Path.{refl}
use native.Mathlib.Omega.{arith}
use Rattle.rows.specs.Tables.{join_begin, join_room, join_step, join_end}
use Rattle.opened.proofs.repeated.repeat.Goals as goal

pub loop-k-init : goal.loop-k-init
loop-k-init g c = join_begin _ _ _ _ _ (omega arith)

pub overflow_mul-k : goal.overflow_mul-k
overflow_mul-k g c = omega (arith, join_room c.loop-k.invariant (λ _. refl) (omega arith) (omega arith))

pub overflow_add-at : goal.overflow_add-at
overflow_add-at g c = omega (arith, join_room c.loop-k.invariant (λ _. refl) (omega arith) (omega arith))

pub copy_in-requires : goal.copy_in-requires
copy_in-requires g c = join_room c.loop-k.invariant (λ _. refl) (omega arith) (omega arith)

pub loop-k-preserved : goal.loop-k-preserved
loop-k-preserved g c =
    join_step c.loop-k.invariant (λ _. refl) (omega arith) (omega arith) c.copy_in.ensures

pub returns : goal.returns
returns g c = join_end c.loop-k.invariant (λ _. refl) (omega arith)
