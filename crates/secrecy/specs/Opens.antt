-- An open that succeeds makes one and the same state, whatever its slices held. Assumes nothing.
use Rattle.std.specs.Prelude.{◌≡◌, refl, Bool, true, false, cond, ℕ, T}
use Rattle.std.proofs.Common.{subst, sym, arith}
use Rattle.params.specs.declared.params.Params.{Params}
use Rattle.params.specs.Sizes.{Allowed}
use Rattle.state.specs.State.{State, places_of}
use Rattle.whole.specs.Counts.{samples_allowed, counts_allowed, allowed_facts}
use Rattle.whole.specs.Whole.{sized_of}
use Rattle.voice.specs.declared.Voice.{Voice}
use Rattle.state_voices.specs.StateVoices.{voice_in}
use Rattle.opened.specs.Opened.{default_voice, opened}
use Rattle.opened.specs.Laws.{opened_params, opened_idle}
use Rattle.opened.specs.Whole.{opened_whole}
use Rattle.alike.specs.Alike.{live, Named}
use Rattle.calls.specs.Calls.{OpenOutcome, open_left, open_call}
use Rattle.secrecy.specs.Demand.{begun}
use Rattle.secrecy.specs.Both.{Both}

-- by the answers to questions 1, 2 and 3
open_by : Bool → Bool → Bool → Params → State → OpenOutcome
open_by s c z p st = cond s (cond c (cond z (open_left 0 (opened p)) (open_left 3 st)) (open_left 2 st)) (open_left 1 st)

opens_by : (p : Params) (st : State) (s c z : Bool) → samples_allowed p ≡ s → counts_allowed p ≡ c → (open_by s c z p st).number ≡ 0
    → ((open_by s c z p st).state ≡ opened p) × Allowed p
unfolding open_by
opens_by p st true true true es ec h = (refl, allowed_facts p es ec)
opens_by p st true true false es ec h = absurd (omega arith)
opens_by p st true false z es ec h = absurd (omega arith)
opens_by p st false c z es ec h = absurd (omega arith)

pub opens : (p : Params) (st : State) → (open_call p st).number ≡ 0 → ((open_call p st).state ≡ opened p) × Allowed p
unfolding open_call open_by
opens p st h = opens_by p st (samples_allowed p) (counts_allowed p) (sized_of (places_of p) st) refl refl h

-- two sessions begin with the same state, in which no voice can be heard
pub opened_both : (p : Params) (P : ℕ → Type 0) → Allowed p → Both p P (opened p) (opened p)
opened_both p P a = record {
  left = opened_whole p a;
  right = opened_whole p a;
  params = opened_params p;
  alike = record { words = refl; longs = refl; floats = refl; contexts = λ k l q. refl; history = λ k l q. refl };
}

pub begun_both : (p : Params) (P : ℕ → Type 0) (a b : State) → (open_call p a).number ≡ 0 → (open_call p b).number ≡ 0
    → Both p P (begun p a) (begun p b)
begun_both p P a b oa ob =
    subst (λ (s : State). Both p P s (begun p b)) (sym (opens p a oa).0)
    (subst (Both p P (opened p)) (sym (opens p b ob).0) (opened_both p P (opens p a oa).1))

pub opened_silent : (p : Params) (P : ℕ → Type 0) → Named p P (λ k. voice_in k (opened p))
unfolding live default_voice
opened_silent p P k l t = absurd (subst (λ (v : Voice). T (live v)) (opened_idle p k l) t)
