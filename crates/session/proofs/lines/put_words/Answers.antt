-- `session::put_words` meets its contract: `Writing` holds at each turn. Assumes nothing.
use mathlib.Core.Path.{ap, ◌∙◌}
use Prim.Native.Nat.{ℕ, ◌*◌}
use native.Mathlib.Omega.{arith}
use Rattle.fields.specs.Fields.{le}
use Rattle.session.specs.Text.{text, append}
use Rattle.session.specs.Lines.{word_text, words_text}
use Rattle.session.specs.Written.{write_begin, write_room, write_more, write_end}
use Rattle.session.specs.Words.{length_word}
use Rattle.session.proofs.lines.put_words.Goals as goal

pub loop-k-init : goal.loop-k-init
loop-k-init c = write_begin _ _ _ _ (omega arith)

pub put_word-end-requires : goal.put_word-end-requires
put_word-end-requires c =
    write_room c.loop-k.invariant (omega arith) c.requires.d_in_bounds

pub loop-k-preserved : goal.loop-k-preserved
loop-k-preserved c =
    let l = c.loop-k in
    let d = c.args.d.now in
    write_more l.invariant (omega arith) c.requires.d_in_bounds (length_word (4 * l.k) (le 4 d (4 * l.k)))
    (c.put_word-end.ensures ∙ ap (λ (v : ℕ). append (text l.out l.end) (word_text (4 * l.k) v)) c.word_at.ensures)

pub returns : goal.returns
unfolding words_text
returns c = write_end c.loop-k.invariant (omega arith)
