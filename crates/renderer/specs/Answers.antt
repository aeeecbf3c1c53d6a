-- The number (docs/QUESTIONS.md) of each refusal, and of each answer, with its values: 0 where it is refused. Definitions only.
use Rattle.std.specs.Prelude.{Bool, true, false, List, ℕ, Float, Result, Ok, Err}
use Rattle.params.specs.declared.params.Params.{Params}
use Rattle.state.specs.State.{State}
use Rattle.whole.specs.Counts.{samples_allowed, counts_allowed}
use Rattle.desk_order.specs.declared.listed.MixOrder.{MixOrder}
use Rattle.calls.specs.Calls.{LengthsOutcome, lengths_refused, LengthOutcome, length_left, OpenOutcome, open_left, UpdateOutcome, update_left, RenderOutcome, render_left, OrderOutcome, order_given, order_refused}
use Rattle.renderer.specs.declared.answers.Lengths.{Lengths}
use Rattle.renderer.specs.declared.answers.LengthsError.{LengthsError}
use Rattle.renderer.specs.declared.answers.LengthsError.TheVariants as of_lengths
use Rattle.renderer.specs.declared.answers.OpenError.{OpenError}
use Rattle.renderer.specs.declared.answers.OpenError.TheVariants as of_open
use Rattle.renderer.specs.declared.answers.UpdateError.{UpdateError}
use Rattle.renderer.specs.declared.answers.UpdateError.TheVariants as of_update
use Rattle.renderer.specs.declared.answers.RenderError.{RenderError}
use Rattle.renderer.specs.declared.answers.RenderError.TheVariants as of_render
use Rattle.renderer.specs.declared.answers.SectionError.{SectionError}
use Rattle.renderer.specs.declared.answers.SectionError.TheVariants as of_section
use Rattle.renderer.specs.declared.answers.OrderError.{OrderError}
use Rattle.renderer.specs.declared.answers.OrderError.TheVariants as of_order

-- ---- questions 1 and 2

abbrev pub lengths_refusal : LengthsError → ℕ
lengths_refusal of_lengths.Samples = 1
lengths_refusal of_lengths.Counts = 2

-- the first of two that is "no"
abbrev pub first_no : Bool → Bool → Result (Unit {0}) LengthsError
first_no true true = Ok tt
first_no true false = Err of_lengths.Counts
first_no false c = Err of_lengths.Samples

unfoldable pub allowed_of : Params → Result (Unit {0}) LengthsError
unfolding samples_allowed counts_allowed
allowed_of p = first_no (samples_allowed p) (counts_allowed p)

-- ---- lengths

abbrev pub lengths_seen : Result Lengths LengthsError → LengthsOutcome
lengths_seen (Ok at) = record { number = 0; words = at.words; longs = at.longs; floats = at.floats; contexts = at.contexts; history = at.history }
lengths_seen (Err e) = lengths_refused (lengths_refusal e)

-- ---- reply_length

abbrev pub reply_length_seen : Result ℕ LengthsError → LengthOutcome
reply_length_seen (Ok size) = length_left 0 size
reply_length_seen (Err e) = length_left (lengths_refusal e) 0

-- ---- open

abbrev pub open_refusal : OpenError → ℕ
open_refusal of_open.Samples = 1
open_refusal of_open.Counts = 2
open_refusal of_open.Lengths = 3

-- questions 1 and 2 are asked of it too
abbrev pub open_refusal_of : LengthsError → OpenError
open_refusal_of of_lengths.Samples = of_open.Samples
open_refusal_of of_lengths.Counts = of_open.Counts

abbrev pub open_number : Result (Unit {0}) OpenError → ℕ
open_number (Ok u) = 0
open_number (Err e) = open_refusal e

abbrev pub open_seen : Result (Unit {0}) OpenError → State → OpenOutcome
open_seen a st = open_left (open_number a) st

-- ---- update: the length of the reply

abbrev pub update_refusal : UpdateError → ℕ
update_refusal of_update.NotWhole = 4
update_refusal of_update.ShortReply = 6

abbrev pub update_number : Result ℕ UpdateError → ℕ
update_number (Ok size) = 0
update_number (Err e) = update_refusal e

abbrev pub update_size : Result ℕ UpdateError → ℕ
update_size (Ok size) = size
update_size (Err e) = 0

abbrev pub update_seen : Result ℕ UpdateError → State → List ℕ → UpdateOutcome
update_seen a st reply = update_left (update_number a) (update_size a) st reply

-- ---- render: the rounds

abbrev pub render_refusal : RenderError → ℕ
render_refusal of_render.NotWhole = 4
render_refusal of_render.Ranges = 13
render_refusal of_render.FarMemory = 5
render_refusal of_render.ShortFrames = 7

abbrev pub render_number : Result ℕ RenderError → ℕ
render_number (Ok rounds) = 0
render_number (Err e) = render_refusal e

abbrev pub render_rounds : Result ℕ RenderError → ℕ
render_rounds (Ok rounds) = rounds
render_rounds (Err e) = 0

abbrev pub render_seen : Result ℕ RenderError → State → List Float → RenderOutcome
render_seen a st frames = render_left (render_number a) (render_rounds a) st frames

-- ---- render_section: the rounds of all its renders

abbrev pub section_refusal : SectionError → ℕ
section_refusal of_section.NotWhole = 4
section_refusal of_section.Ranges = 13
section_refusal of_section.FarMemory = 5
section_refusal of_section.Count = 14
section_refusal of_section.ShortFrames = 7

abbrev pub section_number : Result ℕ SectionError → ℕ
section_number (Ok rounds) = 0
section_number (Err e) = section_refusal e

abbrev pub section_rounds : Result ℕ SectionError → ℕ
section_rounds (Ok rounds) = rounds
section_rounds (Err e) = 0

abbrev pub section_seen : Result ℕ SectionError → State → List Float → RenderOutcome
section_seen a st frames = render_left (section_number a) (section_rounds a) st frames

-- ---- mix_order

abbrev pub order_refusal : OrderError → ℕ
order_refusal of_order.NotWhole = 4

abbrev pub order_seen : Result MixOrder OrderError → OrderOutcome
order_seen (Ok order) = order_given order
order_seen (Err e) = order_refused (order_refusal e)
