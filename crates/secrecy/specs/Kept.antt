-- Every call of a session finds a whole state and leaves one: no call of a session is refused by 4. Assumes nothing.
use Rattle.std.specs.Prelude.{◌≡◌, refl, Bool, ℕ, zero, suc, Float, length}
use Rattle.std.proofs.Common.{sym, subst}
use Rattle.std.proofs.Math.Bool.{true, false}
use mathlib.Core.List.{List, [], ◌∷◌, Memᴰ}
use native.Mathlib.Omega.{arith}
use Rattle.ranges.specs.Ranges.{Range}
use Rattle.ranges.specs.Questions.{laid_of, near_of}
use Rattle.ranges.proofs.Questions.{laid_facts}
use Rattle.params.specs.declared.params.Params.{Params}
use Rattle.state.specs.State.{State}
use Rattle.whole.specs.Whole.{Whole}
use Rattle.update_keeps.specs.Update.{update_whole}
use Rattle.render_keeps.specs.Keeps.{render_whole}
use Rattle.opened.specs.Whole.{opened_whole}
use Rattle.calls.specs.Calls.{UpdateOutcome, update_done, RenderOutcome, render_done, open_call}
use Rattle.secrecy.specs.Sessions.{Call, update, render, after, Said, said, state_at, said_all}
use Rattle.secrecy.specs.Demand.{begun}
use Rattle.secrecy.specs.Updates.{room_by, update_is}
use Rattle.secrecy.specs.Renders.{asked_by, render_is}
use Rattle.secrecy.specs.Opens.{opens}

-- the state is whole, and the number is not 4
pub record Fine (st : State) (number : ℕ) : Type 0 where
  pub whole : Whole st
  pub other : number ≡ 4 → ⊥

-- ---- one call

module _ (st : State) (w : Whole st) where
  update_fine : (expected : ℕ) (input reply : List ℕ) (t : Bool) → Fine (room_by t st expected input reply).state (room_by t st expected input reply).number
  unfolding room_by update_done
  update_fine expected input reply true = record { whole = update_whole st w input; other = λ e. omega arith }
  update_fine expected input reply false = record { whole = w; other = λ e. omega arith }

  render_fine : (rs : List Range) (m : List ℕ) (frames : List Float) (t u v : Bool) → laid_of (length m) rs ≡ t → near_of rs ≡ u
      → Fine (asked_by t u v st rs m frames).state (asked_by t u v st rs m frames).number
  unfolding asked_by render_done
  render_fine rs m frames true true true h g = record {
    whole = render_whole st w rs m (laid_facts (length m) rs h g) frames;
    other = λ e. omega arith;
  }
  render_fine rs m frames true true false h g = record { whole = w; other = λ e. omega arith }
  render_fine rs m frames true false v h g = record { whole = w; other = λ e. omega arith }
  render_fine rs m frames false u v h g = record { whole = w; other = λ e. omega arith }

  pub call_fine : (c : Call) → Fine (after st c) (said st c).number
  call_fine (update expected input reply) =
      subst (λ (o : UpdateOutcome). Fine o.state o.number) (sym (update_is st w expected input reply)) (update_fine expected input reply _)
  call_fine (render rs m frames) =
      subst (λ (o : RenderOutcome). Fine o.state o.number) (sym (render_is st w rs m frames))
      (render_fine rs m frames _ _ _ refl refl)

-- ---- a list of calls

whole_at : (st : State) → Whole st → (cs : List Call) (r : ℕ) → Whole (state_at st cs r)
whole_at st w [] r = w
whole_at st w (c ∷ cs) zero = w
whole_at st w (c ∷ cs) (suc r) = whole_at (after st c) (call_fine st w c).whole cs r

said_other : (st : State) → Whole st → (cs : List Call) (s : Said) → Memᴰ s (said_all st cs) → s.number ≡ 4 → ⊥
said_other st w (c ∷ cs) s (Memᴰ.head e) = subst (λ (x : Said). x.number ≡ 4 → ⊥) (sym e) (call_fine st w c).other
said_other st w (c ∷ cs) s (Memᴰ.tail i) = said_other (after st c) (call_fine st w c).whole cs s i
said_other st w [] s i = elim i [ ]

-- ---- a session

module _ (p : Params) (a : State) (o : (open_call p a).number ≡ 0) where
  begun_whole : Whole (begun p a)
  begun_whole = subst Whole (sym (opens p a o).0) (opened_whole p (opens p a o).1)

  pub session_whole : (cs : List Call) (r : ℕ) → Whole (state_at (begun p a) cs r)
  session_whole = whole_at (begun p a) begun_whole

  pub never_four : (cs : List Call) (s : Said) → Memᴰ s (said_all (begun p a) cs) → s.number ≡ 4 → ⊥
  never_four = said_other (begun p a) begun_whole
