use Prim.Native.Nat.{ℕ, ◌+◌}
use Rattle.rows.specs.Tables.{Joining}
use Rattle.voice_rows.specs.WaveRow.{words_of_wave}
use Rattle.voice_rows.specs.VoiceRow.{wave_at}
use Rattle.voice_rows.proofs.voice_row.store_words.Given as goal

abbrev pub invariant-loop-k : goal.invariant-loop-k
invariant-loop-k l = Joining l.initial.words (l.at + 26) 4 8 (λ (k' : ℕ). words_of_wave (wave_at l.v k')) l.words l.k
