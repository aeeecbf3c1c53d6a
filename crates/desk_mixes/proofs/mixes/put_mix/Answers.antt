-- `mixes::put_mix` meets its contract. Assumes nothing.
use mathlib.Core.Path.{refl, sym, ◌∙◌}
use Rattle.desk_mixes.proofs.MixRow.{used, unused}
use Rattle.desk_mixes.proofs.mixes.put_mix.Goals as goal

pub returns-then-flag_at : goal.returns-then-flag_at
returns-then-flag_at c =
    used c.args.p.now c.args.id c.args.words.now c.args.floats.now c.requires.0 c.requires.1
    (sym c.flag_at.ensures ∙ c.if-flag_at.true) c.put_words.ensures c.put_volumes.ensures

pub returns-else-flag_at : goal.returns-else-flag_at
returns-else-flag_at c =
    unused c.args.p.now c.args.id c.args.words.now c.args.floats.now c.requires.0 c.requires.1
    (sym c.flag_at.ensures ∙ c.if-flag_at.false) refl refl
