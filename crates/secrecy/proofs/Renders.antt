-- A render at the same place of two sessions: it takes the same rounds and leaves states that are as before; its frames are the same where each voice that
-- can be heard is one of P. Assumes nothing.
use Rattle.std.specs.Prelude.{◌≡◌, Bool, ℕ, ◌+◌, ◌-◌, ◌*◌, ◌^◌, ◌%◌, ◌≤◌, ◌<◌, T, leb, eqb, Float, length}
use Rattle.std.proofs.Math.Path.{refl, ap, subst}
use Rattle.std.proofs.Common.{sym, ◌∙◌, arith}
use Rattle.std.proofs.Math.Bool.{true, false}
use mathlib.Core.List.{List, Memᴰ}
use Rattle.std.proofs.Math.ListN.{take}
use Rattle.ranges.specs.Ranges.{Range}
use Rattle.ranges.specs.Ascending.{Ascending, none, more}
use Rattle.ranges.specs.Questions.{laid_of, near_of}
use Rattle.ranges.proofs.Questions.{laid_facts}
use Rattle.memory.proofs.Bytes.{read_same}
use Rattle.params.specs.declared.params.Params.{Params}
use Rattle.state.specs.State.{State, params_in}
use Rattle.whole.specs.Whole.{Whole}
use Rattle.state_voices.specs.StateVoices.{voice_in}
use Rattle.render.specs.Render.{rendered_by}
use Rattle.render_keeps.specs.Keeps.{render_params, render_whole}
use Rattle.alike.specs.Reads.{Span}
use Rattle.alike.specs.Alike.{Alike, SameReads}
use Rattle.render_alike.specs.Render.{RendersAlike, rendered_alike}
use Rattle.calls.specs.Calls.{RenderOutcome, render_done, render_call}
use Rattle.secrecy.specs.Declared.{reads}
use Rattle.secrecy.specs.Demand.{Agree}
use Rattle.secrecy.specs.Both.{Both, params_same}
use Rattle.secrecy.specs.Renders.{RenderCallsAlike, asked_by, room_for, render_is}

-- ---- memories that agree on a span give the same bytes to its read

-- each of the ranges ends at 2 ^ 63 or before
each_near : {n e : ℕ} {rs : List Range} → Ascending n e rs → (r : Range) → Memᴰ r rs → r.base + r.size ≤ 2 ^ 63
each_near (more a p q s) r (Memᴰ.head i) = subst (λ (x : Range). x.base + x.size ≤ 2 ^ 63) (sym i) q
each_near (more a p q s) r (Memᴰ.tail i) = each_near s r i
each_near none r i = elim i [ ]

-- an address of a range lies below 2 ^ 63, so that one of a read is one of its span
pub same_reads : (rs : List Range) (m m' : List ℕ) → length m ≡ length m' → Ascending (length m) 0 rs → (spans : List Span)
    → Agree rs m m' spans → SameReads rs m m' spans
same_reads rs m m' long laid spans agree s i =
    read_same m m' long rs s.at s.long laid
    (λ r j x lo hi from to.
    let near = each_near laid r j in
    let round : x ≡ (s.at + (x - s.at)) % 2 ^ 64 = omega (arith, near) in
    agree r j x lo hi (s, i, (x - s.at, omega arith, round)))

-- ---- a render

module _ {P : ℕ → Type 0} {a b : State} (wa : Whole a) (wb : Whole b) (e : Alike (params_in a) P a b) (rs : List Range) (m m' : List ℕ)
    (long : length m ≡ length m') (frames frames' : List Float) where
  same : params_in a ≡ params_in b
  same = params_same e

  stays : Both (params_in a) P a b
  stays = record { left = wa; right = wb; params = refl; alike = e }

  -- where the render succeeds, the memories agree on what each voice of P reads
  abbrev Fair : RenderOutcome → Type 0
  Fair o = (k : ℕ) → k < (params_in a).voices → P k → T (eqb o.number 0) → Agree rs m m' (reads a rs k)

  -- a render that is done
  done_step : Ascending (length m) 0 rs → ((k : ℕ) → k < (params_in a).voices → P k → Agree rs m m' (reads a rs k))
      → RenderCallsAlike (params_in a) P a b (render_done a rs m frames) (render_done b rs m' frames')
  unfolding render_done reads
  done_step laid fair =
      let p = params_in a in
      let laid' : Ascending (length m') 0 rs = subst (λ (n : ℕ). Ascending n 0 rs) long laid in
      let x = rendered_alike P rs m m' laid laid' a b wa wb e (λ k h q. same_reads rs m m' long laid _ (fair k h q)) frames frames' in
      let done = rendered_by p rs m a frames in
      let y = subst (λ (q : Params). RendersAlike p P (λ k. voice_in k a) done (rendered_by q rs m' b frames')) same x in
      record {
        number = refl;
        rounds = y.rounds;
        both = record {
          left = render_whole a wa rs m laid frames;
          right = render_whole b wb rs m' laid' frames';
          params = render_params a wa rs m laid frames;
          alike = y.states;
        };
        frames = λ n. y.heard n ∙ ap (λ (q : Params). take (2 * q.sample_count) (rendered_by (params_in b) rs m' b frames').frames) same;
      }

  -- a render by its answers: 13 and 5 hand out that the ranges ascend
  asked : (laid near room : Bool) → laid_of (length m) rs ≡ laid → near_of rs ≡ near → Fair (asked_by laid near room a rs m frames)
      → RenderCallsAlike (params_in a) P a b (asked_by laid near room a rs m frames) (asked_by laid near room b rs m' frames')
  unfolding asked_by render_done
  asked true true true h g fair = done_step (laid_facts (length m) rs h g) (λ k l q. fair k l q tt)
  asked true true false h g fair = record { number = refl; rounds = refl; both = stays; frames = λ _. refl }
  asked true false room h g fair = record { number = refl; rounds = refl; both = stays; frames = λ _. refl }
  asked false near room h g fair = record { number = refl; rounds = refl; both = stays; frames = λ _. refl }

  -- a render, whatever its answers
  pub render_step_lem : length frames ≡ length frames' → Fair (render_call a rs m frames)
      → RenderCallsAlike (params_in a) P a b (render_call a rs m frames) (render_call b rs m' frames')
  render_step_lem wide fair =
      let laid = laid_of (length m) rs in
      let near = near_of rs in
      let room = room_for a frames in
      let asked_same : asked_by laid near room b rs m' frames' ≡ asked_by (laid_of (length m') rs) near (room_for b frames') b rs m' frames' =
      λ i. asked_by (laid_of (long i) rs) near (leb (2 * (same i).sample_count) (wide i)) b rs m' frames' in
      let is_a = render_is a wa rs m frames in
      subst (λ (o : RenderOutcome). RenderCallsAlike (params_in a) P a b o (render_call b rs m' frames')) (sym is_a)
      (subst (RenderCallsAlike (params_in a) P a b (asked_by laid near room a rs m frames)) (asked_same ∙ sym (render_is b wb rs m' frames'))
      (asked laid near room refl refl (subst Fair is_a fair)))
