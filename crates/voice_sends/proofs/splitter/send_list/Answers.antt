-- `splitter::send_list` meets its contract: `Striding` holds at each turn, the last too. Assumes nothing.
use mathlib.Core.Path.{refl}
use native.Mathlib.Omega.{arith}
use Rattle.voice_sends.specs.Sending.{list_sent}
use Rattle.voice_sends.specs.Sizes.{entry_keeps}
use Rattle.voice_sends.specs.Strides.{stride_begin, stride_more, stride_end}
use Rattle.voice_sends.specs.Cases.{due, not_due}
use Rattle.voice_sends.proofs.splitter.send_list.Goals as goal

pub loop-k-init : goal.loop-k-init
loop-k-init c = stride_begin _ _ _ _ _ (λ k st. not_due _ _ _ _ _ _ _ _ st _ _ k) _ (omega arith) (record { buffers = refl; gains = omega arith })

pub loop-k-preserved : goal.loop-k-preserved
loop-k-preserved c =
    stride_more _ _ _ _ _ (λ k st. not_due _ _ _ _ _ _ _ _ st _ _ k) c.loop-k.invariant (omega (arith, c.requires)) (omega arith) (entry_keeps _ _ _ _ _ _ _ _ _ _ _ _)
    (due _ _ _ _ _ _ _ _ _ _ _ _ c.loop-k.invariant.place (rw c.list_entry-d.ensures at c.send_destination.ensures))

pub returns-2 : goal.returns-2
unfolding list_sent
returns-2 c =
    stride_end _ _ _ _ _
    (stride_more _ _ _ _ _ (λ k st. not_due _ _ _ _ _ _ _ _ st _ _ k) c.loop-k.invariant (omega (arith, c.requires)) (omega arith) (entry_keeps _ _ _ _ _ _ _ _ _ _ _ _)
    (due _ _ _ _ _ _ _ _ _ _ _ _ c.loop-k.invariant.place (rw c.list_entry-d.ensures at c.send_destination.ensures)))
    (omega arith)

pub returns : goal.returns
unfolding list_sent
returns c = stride_end _ _ _ _ _ c.loop-k.invariant (omega arith)
