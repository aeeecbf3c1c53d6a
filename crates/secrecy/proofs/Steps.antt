-- A call at the same place of two sessions. Assumes nothing.
use Rattle.std.specs.Prelude.{◌≡◌, refl, Bool, cond, ◌⊎◌, List, [], ℕ, ◌<◌, T, eqb, Float, length}
use Rattle.std.proofs.Common.{ap, sym, true≢false, inr}
use Rattle.std.proofs.Math.Path.{subst}
use Rattle.std.proofs.Math.Bool.{true, false}
use Rattle.std.proofs.Math.Logic.{inl}
use Rattle.ranges.specs.Ranges.{Range}
use Rattle.ranges.specs.Questions.{laid_of, near_of}
use Rattle.ranges.proofs.Questions.{laid_facts}
use Rattle.params.specs.declared.params.Params.{Params}
use Rattle.state.specs.State.{State, params_in}
use Rattle.whole.specs.Whole.{Whole}
use Rattle.state_voices.specs.StateVoices.{voice_in}
use Rattle.alike.specs.Alike.{live, Named}
use Rattle.update_alike.specs.Routes.{routes}
use Rattle.update_alike.specs.Live.{update_live}
use Rattle.render_alike.specs.Live.{render_live}
use Rattle.calls.specs.Calls.{UpdateOutcome, update_done, RenderOutcome, render_done}
use Rattle.secrecy.specs.Sessions.{Call, update, render, shape, after, said, succeeds, frames_by}
use Rattle.secrecy.specs.Shapes.{is_update, expected_of, input_of, ranges_in, memory_of, length_of}
use Rattle.secrecy.specs.Declared.{reads, spans_by, routing}
use Rattle.secrecy.specs.Demand.{Agree, AgreeOn}
use Rattle.secrecy.specs.Both.{Both}
use Rattle.secrecy.specs.Updates.{room_by, update_is, update_step_lem}
use Rattle.secrecy.specs.Renders.{asked_by, render_is}
use Rattle.secrecy.proofs.Renders.{render_step_lem}

-- ---- a call of each kind

-- where it succeeds, the memories agree on what each voice of P reads
abbrev pub Fair : Params → (ℕ → Type 0) → State → Call → Call → Type 0
Fair p P a c c' = (k : ℕ) → k < p.voices → P k → T (succeeds a c) → AgreeOn c c' (spans_by a (shape c) k)

pub record Stepped (p : Params) (P : ℕ → Type 0) (a b : State) (c c' : Call) : Type 0 where
  pub same : said a c ≡ said b c'
  pub both : Both p P (after a c) (after b c')
  pub frames : Named p P (λ k. voice_in k a) → frames_by a c ≡ frames_by b c'

module _ {P : ℕ → Type 0} {a b : State} (h : Both (params_in a) P a b) where
  updates_step : (expected : ℕ) (input reply reply' : List ℕ) → length reply ≡ length reply'
      → Stepped (params_in a) P a b (update expected input reply) (update expected input reply')
  updates_step expected input reply reply' e =
      let s = update_step_lem h.left h.right h.alike expected input reply reply' e in
      record {
        same = λ i. record { number = s.number i; size = s.size i; reply = s.reply i; rounds = 0 };
        both = s.both;
        frames = λ _. refl;
      }

  renders_step : (rs : List Range) (m m' : List ℕ) (frames frames' : List Float) → length m ≡ length m' → length frames ≡ length frames'
      → ((k : ℕ) → k < (params_in a).voices → P k → T (succeeds a (render rs m frames)) → Agree rs m m' (reads a rs k))
      → Stepped (params_in a) P a b (render rs m frames) (render rs m' frames')
  renders_step rs m m' frames frames' e w fair =
      let s = render_step_lem h.left h.right h.alike rs m m' e frames frames' w fair in
      record {
        same = λ i. record { number = s.number i; size = 0; reply = []; rounds = s.rounds i };
        both = s.both;
        frames = s.frames;
      }

  step_of_lem : (c c' : Call) → shape c ≡ shape c' → Fair (params_in a) P a c c' → Stepped (params_in a) P a b c c'
  unfolding is_update expected_of input_of ranges_in memory_of length_of
  step_of_lem (update expected input reply) (update expected' input' reply') e fair =
      let same : update expected input reply' ≡ update expected' input' reply' = λ i. update (expected_of (e i)) (input_of (e i)) reply' in
      subst (Stepped (params_in a) P a b (update expected input reply)) same (updates_step expected input reply reply' (ap length_of e))
  step_of_lem (render rs m frames) (render rs' m' frames') e fair =
      let same : render rs m' frames' ≡ render rs' m' frames' = λ i. render (ranges_in (e i)) m' frames' in
      subst (Stepped (params_in a) P a b (render rs m frames)) same
      (renders_step rs m m' frames frames' (ap memory_of e) (ap length_of e) fair)
  step_of_lem (update expected input reply) (render rs' m' frames') e fair = absurd (true≢false (ap is_update e))
  step_of_lem (render rs m frames) (update expected' input' reply') e fair = absurd (true≢false (sym (ap is_update e)))

pub step : {p : Params} {P : ℕ → Type 0} {a b : State} → Both p P a b → (c c' : Call) → shape c ≡ shape c' → Fair p P a c c' → Stepped p P a b c c'
step {p} {P} {a} {b} h c c' e fair =
    subst (λ (q : Params). Both q P a b → Fair q P a c c' → Stepped q P a b c c') h.params (λ h'. step_of_lem h' c c' e) h fair

-- ---- a voice that can be heard after a call could be heard before it, or was routed by it

module _ (a : State) (w : Whole a) (k : ℕ) (inside : k < (params_in a).voices) where
  abbrev HeardAfter : State → Bool → Type 0
  HeardAfter st routes = T (live (voice_in k st)) → T (live (voice_in k a)) ⊎ T routes

  update_heard : (expected : ℕ) (input reply : List ℕ) (t : Bool)
      → HeardAfter (room_by t a expected input reply).state (cond (eqb (room_by t a expected input reply).number 0) (routes (params_in a) input k) false)
  unfolding room_by update_done
  update_heard expected input reply true l = update_live (params_in a) w.allowed input w.sized k inside l
  update_heard expected input reply false l = inl l

  render_heard : (rs : List Range) (m : List ℕ) (frames : List Float) (t u v : Bool) → laid_of (length m) rs ≡ t → near_of rs ≡ u
      → HeardAfter (asked_by t u v a rs m frames).state false
  unfolding asked_by render_done
  render_heard rs m frames true true true h g l = inl (render_live a w rs m (laid_facts (length m) rs h g) frames k inside l)
  render_heard rs m frames true true false h g l = inl l
  render_heard rs m frames true false v h g l = inl l
  render_heard rs m frames false u v h g l = inl l

  abbrev ByUpdate : List ℕ → UpdateOutcome → Type 0
  ByUpdate input o = HeardAfter o.state (cond (eqb o.number 0) (routes (params_in a) input k) false)

  pub heard_after : (c : Call) → HeardAfter (after a c) (routing a c k)
  heard_after (update expected input reply) l =
      subst (ByUpdate input) (sym (update_is a w expected input reply)) (update_heard expected input reply _) l
  heard_after (render rs m frames) l =
      go
      (subst (λ (o : RenderOutcome). HeardAfter o.state false) (sym (render_is a w rs m frames))
      (render_heard rs m frames _ _ _ refl refl) l)
    where
      go : T (live (voice_in k a)) ⊎ T false → T (live (voice_in k a)) ⊎ T (routing a (render rs m frames) k)
      go (inl t) = inl t
      go (inr t) = absurd t
