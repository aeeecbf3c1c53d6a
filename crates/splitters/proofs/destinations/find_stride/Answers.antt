-- `splitters::destinations::find_stride` meets its contract: `Trying` holds at each turn. Assumes nothing.
use mathlib.Core.Path.{refl}
use native.Mathlib.Omega.{arith}
use borrow.Author.Tests.{lt-ltb, le-ltb}
use Rattle.splitters.specs.Destinations.{stride_of}
use Rattle.splitters.proofs.Stride.{try_more, try_found, try_none}
use Rattle.splitters.proofs.destinations.find_stride.Goals as goal

pub returns-then-count-lt2 : goal.returns-then-count-lt2
unfolding stride_of
returns-then-count-lt2 c = (simp (lt-ltb _ _ c.if-count-lt2.true), omega arith)

pub loop-k-init : goal.loop-k-init
loop-k-init c = record { tries = omega arith; whole = refl }

pub returns-then-u32_at-eq-DESTINATION_MAGIC : goal.returns-then-u32_at-eq-DESTINATION_MAGIC
unfolding stride_of
returns-then-u32_at-eq-DESTINATION_MAGIC c =
    (simp (le-ltb _ _ c.if-count-lt2.false) (try_found c.loop-k.invariant (omega arith) c.u32_at.ensures c.if-u32_at-eq-DESTINATION_MAGIC.true), omega arith)

pub loop-k-preserved : goal.loop-k-preserved
loop-k-preserved c = try_more c.loop-k.invariant (omega arith) c.u32_at.ensures c.if-u32_at-eq-DESTINATION_MAGIC.false

pub returns : goal.returns
unfolding stride_of
returns c =
    (simp (le-ltb _ _ c.if-count-lt2.false) (try_none c.loop-k.invariant (omega arith)), omega arith)
