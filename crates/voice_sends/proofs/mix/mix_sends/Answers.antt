-- `mix::mix_sends` meets its contract: `Turning` holds at each turn. Assumes nothing.
use mathlib.Core.Path.{refl}
use native.Mathlib.Omega.{arith}
use Rattle.voice_sends.specs.Sending.{mix_sends}
use Rattle.rows.specs.Loops.{turn_begin, turn_more, turn_end}
use Rattle.voice_sends.specs.Sizes.{sent_keeps}
use Rattle.voice_sends.proofs.mix.mix_sends.Goals as goal

pub loop-c-init : goal.loop-c-init
loop-c-init c = turn_begin _ _ _ _ (record { buffers = refl; gains = omega arith })

pub send_channel-requires : goal.send_channel-requires
send_channel-requires c = omega (arith, c.requires.ids.each c.loop-c.c (omega arith))

pub loop-c-preserved : goal.loop-c-preserved
loop-c-preserved c =
    let l = c.loop-c in
    turn_more l.invariant (omega arith) (sent_keeps _ _ _ _ _ _ _ (c.requires.ids.each l.c (omega arith)))
    c.send_channel.ensures

pub returns : goal.returns
unfolding mix_sends
returns c = turn_end c.loop-c.invariant (omega arith) refl
