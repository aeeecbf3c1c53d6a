-- `write_pools` meets its contract: a pool is put at each turn. Assumes nothing.
use native.Mathlib.Omega.{arith}
use Rattle.rows.specs.Tables.{join_begin, join_room, join_step, join_end}
use Rattle.reply_sections.specs.Pools.{pools_bytes, length_pool}
use Rattle.reply_sections.proofs.pools.write_pools.Goals as goal

pub loop-i-init : goal.loop-i-init
loop-i-init c = join_begin _ _ _ _ _ (omega arith)

pub put_pool-requires : goal.put_pool-requires
put_pool-requires c = record { behavior_bound = c.requires.behavior_bound; i_bound = omega (arith, c.requires.n_bound); at_in_bounds = join_room c.loop-i.invariant (length_pool _ _ _) (omega arith) (omega arith) }

pub loop-i-preserved : goal.loop-i-preserved
loop-i-preserved c =
    join_step c.loop-i.invariant (length_pool _ _ _) (omega arith) (omega arith) c.put_pool.ensures

pub returns : goal.returns
unfolding pools_bytes
returns c = join_end c.loop-i.invariant (length_pool _ _ _) (omega arith)
