-- A call of a session: its refusal's number or 0, what it leaves, and its line. Definitions only.
use Rattle.std.specs.Prelude.{List, [], ◌∷◌, ℕ, zero, suc, Float, Option, Some, None, length, take}
use Rattle.fields.specs.Fields.{section_of}
use Rattle.ranges.specs.Ranges.{range}
use Rattle.state.specs.State.{State}
use Rattle.calls.specs.Calls.{UpdateOutcome, update_call, RenderOutcome, render_call}
use Rattle.session.specs.declared.input.Call.{Call}
use Rattle.session.specs.declared.input.Call.TheVariants.{Render, Update}
use Rattle.session.specs.Text.{Text, text, append}
use Rattle.session.specs.Lines.{frames_line, reply_line, refused_line}

-- what a session keeps from call to call: the renderer's state, and the slices that are lent for frames and for a reply
pub record Held : Type 0 where
  pub state : State
  pub frames : List Float
  pub reply : List ℕ

abbrev pub held : State → List Float → List ℕ → Held
held st frames reply = record { state = st; frames = frames; reply = reply }

pub record Step : Type 0 where
  pub number : ℕ
  pub left : Held
  pub line : List ℕ

abbrev pub step : ℕ → Held → List ℕ → Step
step n h line = record { number = n; left = h; line = line }

-- the line of a call that ran, or of its refusal
abbrev pub line_of : ℕ → List ℕ → List ℕ
line_of zero line = line
line_of (suc n) line = refused_line (suc n)

-- sample memory is one range at 0x10000; a render keeps the reply slice
abbrev pub rendered : RenderOutcome → List ℕ → Step
rendered o reply = step o.number (held o.state o.frames reply) (line_of o.number (frames_line o.frames))

unfoldable pub render_step : Held → List ℕ → Step
unfolding render_call
render_step h memory = rendered (render_call h.state (range 0x10000 0 (length memory) ∷ []) memory h.frames) h.reply

-- the reply is at the front of its slice; an update keeps the frames
abbrev pub updated : UpdateOutcome → List Float → Step
updated o frames = step o.number (held o.state frames o.reply) (line_of o.number (reply_line (take o.size o.reply)))

unfoldable pub update_step : Held → ℕ → List ℕ → Step
unfolding update_call
update_step h expected input = updated (update_call h.state expected input h.reply) h.frames

-- the call at the front of d; question 10 has left none but these two
unfoldable pub call_step : Option Call → List ℕ → List ℕ → Held → Step
unfolding render_step update_step refused_line
call_step (Some Render) d memory h = render_step h memory
call_step (Some (Update expected size)) d memory h = update_step h expected (section_of d 9 size)
call_step None d memory h = step 10 h (refused_line 10)

-- ---- a step as it is run: its line stands at the front of `out`, the room for a line

pub record Written : Type 0 where
  pub number : ℕ
  pub left : Held
  pub out : Text

abbrev pub written : ℕ → Held → Text → Written
written n h t = record { number = n; left = h; out = t }

abbrev pub written_on : List ℕ → Step → Written
written_on out s = written s.number s.left (append (text out 0) s.line)
