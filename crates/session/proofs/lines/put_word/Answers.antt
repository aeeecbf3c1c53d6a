-- `session::put_word` meets its contract: nothing for 0, else a space, the offset, a colon and the word. Assumes nothing.
use mathlib.Core.Path.{◌∙◌}
use mathlib.Core.List.{List, [], ◌∷◌, ◌++◌}
use Prim.Native.Nat.{ℕ}
use native.Mathlib.Omega.{arith}
use lib.ListN.{length-append}
use Rattle.session.specs.Text.{hex_of}
use Rattle.session.specs.Digits.{length_hex}
use Rattle.session.specs.Written.{end_is, append_two}
use Rattle.session.specs.Words.{word_none, word_written}
use Rattle.session.proofs.lines.put_word.Goals as goal

pub returns-then-v-eq0 : goal.returns-then-v-eq0
returns-then-v-eq0 c = word_none _ _ _ c.if-v-eq0.true (omega arith)

pub put_hex-colon-requires : goal.put_hex-colon-requires
put_hex-colon-requires c =
    omega (arith, end_is _ _ c.put_byte-first.ensures, c.put_byte-first.auto.out)

pub put_byte-second-requires : goal.put_byte-second-requires
put_byte-second-requires c =
    omega (arith, end_is _ _ c.put_byte-first.ensures, end_is _ _ c.put_hex-colon.ensures, length_hex 4 c.args.offset, c.put_byte-first.auto.out, c.put_hex-colon.auto.out)

pub put_hex-requires : goal.put_hex-requires
put_hex-requires c =
    omega (
      arith,
      end_is _ _ c.put_byte-first.ensures,
      end_is _ _ c.put_hex-colon.ensures,
      end_is _ _ c.put_byte-second.ensures,
      length_hex 4 c.args.offset,
      c.put_byte-first.auto.out,
      c.put_hex-colon.auto.out,
      c.put_byte-second.auto.out,
    )

pub returns : goal.returns
returns c =
    let first : List ℕ = 32 ∷ [] in
    let offset = hex_of 4 c.args.offset in
    let word = hex_of 8 c.args.v in
    let long₁ = length_hex 4 c.args.offset in
    let long₂ = length_hex 8 c.args.v in
    let long₃ = length-append first offset in
    let long₄ = length-append (first ++ offset) (58 ∷ []) in
    append_two _ (first ++ offset ++ (58 ∷ [])) word (omega arith)
    (append_two _ (first ++ offset) (58 ∷ []) (omega arith) (append_two _ first offset (omega arith) c.put_byte-first.ensures c.put_hex-colon.ensures) c.put_byte-second.ensures)
    c.put_hex.ensures
    ∙ word_written _ c.args.offset c.args.v c.if-v-eq0.false
