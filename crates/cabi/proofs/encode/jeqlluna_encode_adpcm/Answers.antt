-- `cabi::encode::jeqlluna_encode_adpcm` meets its contract. Assumes nothing.
use Rattle.cabi.proofs.Told.{encode_seen_lem}
use Rattle.cabi.proofs.encode.jeqlluna_encode_adpcm.Goals as goal

pub returns : goal.returns
returns c =
    rw (c.encode_told.ensures, encode_seen_lem, ← c.context_in.ensures, ← c.sixteen-pairs.ensures) c.encode_adpcm.ensures
