-- `mixes::mixes_read` meets its contract. Assumes nothing.
use mathlib.Core.Path.{◌≡◌, ap, ◌∙◌}
use native.Mathlib.Omega.{arith}
use Rattle.desk_mixes.specs.Mixes.{mix_base, mix_count, mixes_read}
use Rattle.desk_mixes.proofs.mixes.mixes_read.Goals as goal

pub returns-then-dirty : goal.returns-then-dirty
unfolding mixes_read mix_base mix_count
returns-then-dirty c = simp c.if-dirty.true (cc)

pub returns-else-dirty : goal.returns-else-dirty
unfolding mixes_read mix_base mix_count
returns-else-dirty c =
    let first : c.mix_base.result ≡ 0 = c.mix_base.ensures ∙ ap mix_base c.if-dirty.false in
    simp c.if-dirty.false (omega arith)
