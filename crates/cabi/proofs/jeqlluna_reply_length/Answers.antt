-- `cabi::jeqlluna_reply_length` meets its contract. Assumes nothing.
use mathlib.Core.Path.{ap, ◌∙◌}
use Rattle.params.specs.declared.params.Params.{Params}
use Rattle.calls.specs.Calls.{reply_length_call}
use Rattle.cabi.proofs.jeqlluna_reply_length.Goals as goal

pub returns : goal.returns
returns c =
    c.reply_length_told.ensures ∙ c.reply_length.ensures
    ∙ ap (λ (p : Params). reply_length_call p c.args.expected) c.parse.ensures
