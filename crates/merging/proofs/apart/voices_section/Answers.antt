-- `apart::voices_section` meets its contract. Assumes nothing.
use mathlib.Core.Path.{◌∙◌}
use Rattle.fields.specs.Fields.{section_of}
use Rattle.merging.proofs.apart.voices_section.Goals as goal

pub returns : goal.returns
returns c =
    let read = c.read-s.ensures.value in
    let input = c.args.input.now in
    c.section.ensures ∙ (λ i. section_of input (read i).voices_at (read i).voices_size)
