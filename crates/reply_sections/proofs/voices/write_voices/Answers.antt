-- `write_voices` meets its contract: a status is put at each turn. Assumes nothing.
use native.Mathlib.Omega.{arith}
use Rattle.rows.specs.Tables.{join_begin, join_room, join_step, join_end}
use Rattle.reply_sections.specs.Voices.{voices_bytes, length_status_at}
use Rattle.reply_sections.proofs.voices.write_voices.Goals as goal

pub loop-i-init : goal.loop-i-init
loop-i-init c = join_begin _ _ _ _ _ (omega arith)

pub put_voice-requires : goal.put_voice-requires
put_voice-requires c = record { i_in_bounds = omega arith; i_in_bounds_2 = omega arith; at_in_bounds = join_room c.loop-i.invariant (length_status_at _ _) (omega arith) (omega arith) }

pub loop-i-preserved : goal.loop-i-preserved
loop-i-preserved c =
    join_step c.loop-i.invariant (length_status_at _ _) (omega arith) (omega arith) c.put_voice.ensures

pub returns : goal.returns
unfolding voices_bytes
returns c = join_end c.loop-i.invariant (length_status_at _ _) (omega arith)
