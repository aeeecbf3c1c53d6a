use Prim.Native.Nat.{ℕ, ◌+◌}
use Rattle.rows.specs.Tables.{Joining}
use Rattle.voice_rows.specs.WaveRow.{longs_of_wave}
use Rattle.voice_rows.specs.VoiceRow.{wave_at}
use Rattle.voice_rows.proofs.voice_row.store_longs.Given as goal

abbrev pub invariant-loop-k : goal.invariant-loop-k
invariant-loop-k l = Joining l.initial.longs (l.at + 2) 4 3 (λ (k' : ℕ). longs_of_wave (wave_at l.v k')) l.longs l.k
