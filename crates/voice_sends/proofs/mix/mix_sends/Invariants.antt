use Prim.Native.Nat.{◌*◌}
use lib.ListN.{length, get_or}
use Rattle.desk_rows.specs.DeskRows.{mix_offset, mix_buffers}
use Rattle.voice_sends.specs.Sending.{passing, sent}
use Rattle.rows.specs.Loops.{Turning}
use Rattle.voice_sends.specs.Sizes.{Sizes}
use Rattle.voice_sends.proofs.mix.mix_sends.Given as goal

abbrev pub invariant-loop-c : goal.invariant-loop-c
invariant-loop-c l =
    Turning (Sizes (length l.initial.buffers) (l.nc * 48)) (λ k. sent l.rows.n l.rows.samples.now (mix_offset l.mixes.words.now l.m) (mix_buffers l.mixes.words.now l.m) k (get_or l.ids k 0)) l.rows.channels (passing l.initial.buffers l.initial.resources) (passing l.buffers l.resources) l.c
