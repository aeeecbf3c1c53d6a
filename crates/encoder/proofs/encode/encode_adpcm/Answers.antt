-- `encoder::encode::encode_adpcm` meets its contract: question 15, then the encoding. Assumes nothing.
use mathlib.Core.Path.{sym, ◌∙◌}
use native.Mathlib.Omega.{arith}
use lib.Seq.{length-take-le}
use Rattle.encoder.proofs.Answer.{outcome_short, outcome_done}
use Rattle.encoder.proofs.encode.encode_adpcm.Goals as goal

pub returns-then-out-size : goal.returns-then-out-size
returns-then-out-size c = outcome_short _ _ _ _ (omega (arith, c.if-out-size.true, c.adpcm_size-size.ensures))

pub slice_bounds-encode_frames-end-2 : goal.slice_bounds-encode_frames-end-2
slice_bounds-encode_frames-end-2 c = sym (length-take-le _ _ c.if-out-size.false)

pub encode_frames-left-requires : goal.encode_frames-left-requires
encode_frames-left-requires c = length-take-le _ _ c.if-out-size.false ∙ c.adpcm_size-size.ensures

pub returns : goal.returns
returns c =
    outcome_done _ _ _ _ _ _ _ _ c.adpcm_size-size.ensures c.if-out-size.false c.encode_frames-left.ensures
