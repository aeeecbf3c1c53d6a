-- `cabi::dsp::write_told` meets its contract. Assumes nothing.
use Prim.Native.Nat.{ℕ}
use mathlib.Core.Path.{ap, sym, ◌∙◌}
use Rattle.cabi.specs.declared.dsp.JeqllunaDspWritten.{JeqllunaDspWritten}
use Rattle.cabi.specs.Dsp.{write_told}
use Rattle.cabi.proofs.dsp.write_told.Goals as goal

refused : ℕ → JeqllunaDspWritten
refused n = record { number = n; size = 0 }

pub returns-in-Ok : goal.returns-in-Ok
returns-in-Ok c = ap write_told (sym c.in-Ok.is)

pub returns-in-Err : goal.returns-in-Err
unfolding refused
returns-in-Err c = ap refused c.number.ensures ∙ ap write_told (sym c.in-Err.is)
