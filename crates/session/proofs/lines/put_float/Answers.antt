-- `session::put_float` meets its contract: a space, and eight digits behind it. Assumes nothing.
use mathlib.Core.Path.{◌∙◌}
use mathlib.Core.List.{[], ◌∷◌}
use native.Mathlib.Omega.{arith}
use Rattle.session.specs.Text.{hex_of}
use Rattle.session.specs.Digits.{length_hex}
use Rattle.session.specs.Written.{end_is, append_two}
use Rattle.session.specs.Words.{float_written}
use Rattle.session.proofs.lines.put_float.Goals as goal

pub put_hex-requires : goal.put_hex-requires
put_hex-requires c =
    omega (arith, end_is _ _ c.put_byte-digits.ensures, c.put_byte-digits.auto.out)

pub returns : goal.returns
returns c =
    let bits = c.to_bits.result in
    append_two _ (32 ∷ []) (hex_of 8 bits) (omega (arith, length_hex 8 bits)) c.put_byte-digits.ensures c.put_hex.ensures
    ∙ float_written _ _ c.to_bits.ensures
