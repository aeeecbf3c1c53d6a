-- Laws of a call's step, as a call of the renderer and a line that was written make it. Assumes nothing.
use mathlib.Core.Path.{◌≡◌, refl, ap, sym, ◌∙◌}
use mathlib.Core.Bool.{Bool, true, false, cond}
use mathlib.Core.List.{List, [], ◌∷◌}
use Prim.Native.Nat.{ℕ, zero, suc, ◌≤◌, ◌<◌}
use native.Mathlib.Omega.{arith}
use borrow.Author.Tests.{leb-true}
use lib.Dec.{leb}
use lib.Ieee.{Float}
use lib.ListN.{length, take}
use Rattle.fields.specs.Fields.{section_of}
use Rattle.ranges.specs.Ranges.{range}
use Rattle.params.specs.Sizes.{reply_length}
use Rattle.state.specs.State.{State, params_in}
use Rattle.whole.specs.Whole.{whole_of}
use Rattle.calls.specs.Calls.{UpdateOutcome, update_left, update_done, update_call, RenderOutcome, render_call}
use Rattle.std.specs.Prelude.{Option, Some, None, Result, Err}
use Rattle.renderer.specs.declared.answers.UpdateError.{UpdateError}
use Rattle.renderer.specs.declared.answers.UpdateError.TheVariants as of_update
use Rattle.renderer.specs.declared.answers.RenderError.{RenderError}
use Rattle.renderer.specs.declared.answers.RenderError.TheVariants as of_render
use Rattle.renderer.specs.Answers.{update_refusal, update_number, update_size, update_seen, render_refusal, render_number, render_seen}
use Rattle.session.specs.declared.input.Call.{Call}
use Rattle.session.specs.declared.input.Call.TheVariants.{Render, Update}
use Rattle.session.specs.Text.{Text, text, append}
use Rattle.session.specs.Lines.{frames_line, reply_line, refused_line}
use Rattle.session_calls.specs.Steps.{Held, held, line_of, rendered, render_step, updated, update_step, call_step}
use Rattle.session_calls.specs.Steps.{Written, written, written_on}

-- ---- a line that was written for the number n, where m is the number of what the renderer answered

pub line_is : (n : ℕ) (out line : List ℕ) {m k : ℕ} {t : Text} → m ≡ n → k ≡ n → t ≡ append (text out 0) (line_of n line)
    → (k ≡ m) × (t ≡ append (text out 0) (line_of m line))
line_is n out line e ek l = (ek ∙ sym e, l ∙ ap (λ (j : ℕ). append (text out 0) (line_of j line)) (sym e))

-- and that of a refusal, whose number is not 0
refused_is : (n : ℕ) → 0 < n → (line : List ℕ) → refused_line n ≡ line_of n line
refused_is zero some line = absurd (omega arith)
refused_is (suc n) some line = refl

render_some : (e : RenderError) → 0 < render_refusal e
render_some of_render.NotWhole = omega arith
render_some of_render.Ranges = omega arith
render_some of_render.FarMemory = omega arith
render_some of_render.ShortFrames = omega arith

update_some : (e : UpdateError) → 0 < update_refusal e
update_some of_update.NotWhole = omega arith
update_some of_update.ShortReply = omega arith

module _ (out line : List ℕ) {m n k : ℕ} {t : Text} (ek : k ≡ n) (l : t ≡ append (text out 0) (refused_line n)) where
  refusal_is : (r : ℕ) → 0 < r → m ≡ r → n ≡ r → (k ≡ m) × (t ≡ append (text out 0) (line_of m line))
  refusal_is r some em en =
      line_is r out line em (ek ∙ en)
      (l ∙ ap (λ (j : ℕ). append (text out 0) (refused_line j)) en ∙ ap (append (text out 0)) (refused_is r some line))

  pub render_refused : {a : Result ℕ RenderError} {e : RenderError} → a ≡ Err e → n ≡ render_refusal e → m ≡ render_number a
      → (k ≡ m) × (t ≡ append (text out 0) (line_of m line))
  render_refused {e = e} ea en em = refusal_is (render_refusal e) (render_some e) (em ∙ ap render_number ea) en

  pub update_refused : {a : Result ℕ UpdateError} {e : UpdateError} → a ≡ Err e → n ≡ update_refusal e → m ≡ update_number a
      → (k ≡ m) × (t ≡ append (text out 0) (line_of m line))
  update_refused {e = e} ea en em = refusal_is (update_refusal e) (update_some e) (em ∙ ap update_number ea) en

-- ---- a step by what the renderer answered, a, and the line that was written

pub render_ran : (st : State) (m : List ℕ) (frames : List Float) (reply out : List ℕ) (a : Result ℕ RenderError) {u : State} {f : List Float}
    → render_seen a u f ≡ render_call st (range 0x10000 0 (length m) ∷ []) m frames
    → {k : ℕ} {t : Text} → k ≡ render_number a → t ≡ append (text out 0) (line_of (render_number a) (frames_line f))
    → written k (held u f reply) t ≡ written_on out (render_step (held st frames reply) m)
unfolding render_step
render_ran st m frames reply out a {u} {f} seen ek l =
    (λ i. written (ek i) (held u f reply) (l i)) ∙ ap (λ (o : RenderOutcome). written_on out (rendered o reply)) seen

module _ (st : State) (expected : ℕ) (input reply : List ℕ) (a : Result ℕ UpdateError) {u : State} {y : List ℕ}
    (seen : update_seen a u y ≡ update_call st expected input reply) where
  pub update_ran : (frames : List Float) (out : List ℕ) {k : ℕ} {t : Text} → k ≡ update_number a
      → t ≡ append (text out 0) (line_of (update_number a) (reply_line (take (update_size a) y)))
      → written k (held u frames y) t ≡ written_on out (update_step (held st frames reply) expected input)
  unfolding update_step
  update_ran frames out ek l =
      (λ i. written (ek i) (held u frames y) (l i)) ∙ ap (λ (o : UpdateOutcome). written_on out (updated o frames)) seen

  by_questions : (w f : Bool) → leb (reply_length (params_in st) expected) (length reply) ≡ f
      → update_seen a u y ≡ cond w (cond f (update_done st expected input reply) (update_left 6 0 st reply)) (update_left 4 0 st reply)
      → update_size a ≤ length reply
  unfolding update_done
  by_questions true true ef e =
      omega (arith, ap (λ (x : UpdateOutcome). x.size) e, leb-true (reply_length (params_in st) expected) (length reply) ef)
  by_questions true false ef e = omega (arith, ap (λ (x : UpdateOutcome). x.size) e)
  by_questions false f ef e = omega (arith, ap (λ (x : UpdateOutcome). x.size) e)

  -- a reply is within the slice that was lent for it
  pub reply_inside : update_size a ≤ length reply
  unfolding update_call
  reply_inside = by_questions (whole_of st) (leb (reply_length (params_in st) expected) (length reply)) refl seen

-- ---- a step by the call, c. A render is lent no reply slice, and an update no frames: what the call before left stays.

with_reply : List ℕ → Written → Written
with_reply reply w = written w.number (held w.left.state w.left.frames reply) w.out

with_frames : List Float → Written → Written
with_frames frames w = written w.number (held w.left.state frames w.left.reply) w.out

module _ {c : Option Call} (d m : List ℕ) (st : State) (frames : List Float) (reply out : List ℕ) {n : ℕ} {u : State} {t : Text} where
  pub call_render : {f : List Float} → c ≡ Some Render → written n (held u f []) t ≡ written_on out (render_step (held st frames []) m)
      → written n (held u f reply) t ≡ written_on out (call_step c d m (held st frames reply))
  unfolding call_step render_step with_reply
  call_render e l = rw e (ap (with_reply reply) l)

  pub call_update : {expected size : ℕ} {input y : List ℕ} → c ≡ Some (Update expected size) → input ≡ section_of d 9 size
      → written n (held u [] y) t ≡ written_on out (update_step (held st [] reply) expected input)
      → written n (held u frames y) t ≡ written_on out (call_step c d m (held st frames reply))
  unfolding call_step update_step with_frames
  call_update {expected = x} e q l =
      rw e (ap (with_frames frames) (l ∙ ap (λ (i : List ℕ). written_on out (update_step (held st [] reply) x i)) q))

pub call_nothing : {c : Option Call} (d m : List ℕ) (h : Held) (out : List ℕ) {k : ℕ} {t : Text} → c ≡ None → k ≡ 10
    → t ≡ append (text out 0) (refused_line 10) → written k h t ≡ written_on out (call_step c d m h)
unfolding call_step
call_nothing d m h out e ek l = rw e (λ i. written (ek i) h (l i))
