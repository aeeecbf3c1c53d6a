-- `cabi::decode::jeqlluna_decode_adpcm` meets its contract. Assumes nothing.
use native.Mathlib.Omega.{arith}
use mir.Syntax.{w16}
use Rattle.adpcm.proofs.Ints.{back}
use Rattle.cabi.specs.Decode.{told_seen}
use Rattle.cabi.proofs.decode.jeqlluna_decode_adpcm.Goals as goal

pub returns : goal.returns
returns c =
    let x = c.args.context in
    rw (c.decode_told.ensures, told_seen, ← (back w16 x.history0 (omega arith)), ← (back w16 x.history1 (omega arith)), ← c.sixteen-pairs.ensures)
    c.decode_adpcm_checked.ensures
