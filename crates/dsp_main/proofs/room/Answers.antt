-- `dsp_main::room` has as many bytes as it says. Assumes nothing.
use Rattle.std.proofs.Common.{◌≡◌, sym, ℕ, length, replicate}
use Rattle.std.proofs.lemmas.List.{length-replicate}
use Rattle.dsp_main.proofs.room.Goals as goal

-- any number of zeros
long : (n : ℕ) → n ≡ length {0} {A = ℕ} (replicate {0} {A = ℕ} n 0)
long n = sym (length-replicate n 0)

pub returns : goal.returns
returns c = long 524289
