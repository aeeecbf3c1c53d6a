-- `put_voices` meets its contract: its row is the default voice's. Assumes nothing.
use mathlib.Core.Path.{ap, ◌∙◌}
use mathlib.Core.List.{List}
use Prim.Native.Nat.{ℕ}
use Rattle.rows.specs.Rows.{put}
use Rattle.rows.specs.Tables.{joined}
use Rattle.opened.specs.Parts.{default_words}
use Rattle.opened.proofs.words.put_voices.Goals as goal

pub returns : goal.returns
returns c =
    c.repeat.ensures ∙ ap (λ (r : List ℕ). put c.args.words.now c.args.at (joined c.args.n (λ _. r))) default_words
