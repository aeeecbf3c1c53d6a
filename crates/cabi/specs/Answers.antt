-- The answers of the calls as structs of numbers. Definitions only.
use Rattle.calls.specs.Calls.{LengthsOutcome, LengthOutcome, length_left, OrderOutcome}
use Rattle.std.specs.Prelude.{ℕ, Result}
use Rattle.renderer.specs.declared.answers.UpdateError.{UpdateError}
use Rattle.renderer.specs.declared.answers.RenderError.{RenderError}
use Rattle.renderer.specs.declared.answers.SectionError.{SectionError}
use Rattle.renderer.specs.Answers.{update_number, update_size, render_number, render_rounds, section_number, section_rounds}
use Rattle.cabi.specs.declared.answers.JeqllunaLengths.{JeqllunaLengths}
use Rattle.cabi.specs.declared.answers.JeqllunaLength.{JeqllunaLength}
use Rattle.cabi.specs.declared.answers.JeqllunaOrder.{JeqllunaOrder}
use Rattle.cabi.specs.declared.answers.JeqllunaUpdate.{JeqllunaUpdate}
use Rattle.cabi.specs.declared.answers.JeqllunaRender.{JeqllunaRender}

abbrev pub lengths_left : JeqllunaLengths → LengthsOutcome
lengths_left r = record { number = r.number; words = r.words; longs = r.longs; floats = r.floats; contexts = r.contexts; history = r.history }

abbrev pub length_in : JeqllunaLength → LengthOutcome
length_in r = length_left r.number r.size

abbrev pub order_in : JeqllunaOrder → OrderOutcome
order_in r = record { number = r.number; order = record { count = r.count; mixes = r.mixes } }

abbrev pub update_told : Result ℕ UpdateError → JeqllunaUpdate
update_told a = record { number = update_number a; size = update_size a }

abbrev pub render_told : Result ℕ RenderError → JeqllunaRender
render_told a = record { number = render_number a; rounds = render_rounds a }

abbrev pub section_told : Result ℕ SectionError → JeqllunaRender
section_told a = record { number = section_number a; rounds = section_rounds a }
