-- Demand 3 holds. Assumes nothing.
use Rattle.std.specs.Prelude.{◌≡◌, Bool, true, false, cond, ℕ, zero, suc, T}
use Rattle.std.proofs.Common.{sym, subst, ◌∙◌}
use mathlib.Core.List.Memᴰ
use mathlib.Core.List.{List, [], ◌∷◌, map, Memᴰ}
use Rattle.params.specs.declared.params.Params.{Params}
use Rattle.params.specs.Sizes.{Allowed}
use Rattle.state.specs.State.{State}
use Rattle.opened.specs.Opened.{opened}
use Rattle.calls.specs.Calls.{open_call}
use Rattle.alike.specs.Reads.{Span}
use Rattle.secrecy.specs.Sessions.{Call, update, render, shape, after, succeeds, state_at, said_all, frames_at}
use Rattle.secrecy.specs.Declared.{spans_by, declares, declared, routed}
use Rattle.secrecy.specs.Demand.{AgreeOn, call_at, ReadCondition, begun, Demand3}
use Rattle.secrecy.specs.Opens.{opens, opened_both, opened_silent}
use Rattle.secrecy.proofs.Lists.{None, said_same, frames_same, declared_same, routed_same}

-- ---- agreement on more is agreement on less

agree_less : (c c' : Call) (few many : List Span) → ((s : Span) → Memᴰ s few → Memᴰ s many) → AgreeOn c c' many → AgreeOn c c' few
agree_less (render rs m frames) (render rs' m' frames') few many sub agree =
    λ r i x lo hi w. agree r i x lo hi (w.0, sub w.0 w.1, w.2)
agree_less (render rs m frames) (update expected' input' reply') few many sub agree = tt
agree_less (update expected input reply) c' few many sub agree = tt

succeeded : (b : Bool) (few : List Span) → T b → (s : Span) → Memᴰ s few → Memᴰ s (cond b few [])
succeeded true few t s i = i
succeeded false few t s i = absurd t

-- what a voice has declared by a render that succeeds has in it what it reads then
reads_declared : (st : State) (cs cs' : List Call) (j k : ℕ) → T (succeeds (state_at st cs j) (call_at cs j))
    → AgreeOn (call_at cs j) (call_at cs' j) (declared st cs j k) → AgreeOn (call_at cs j) (call_at cs' j) (spans_by (state_at st cs j) (shape (call_at cs j)) k)
reads_declared st [] cs' j k t agree = tt
reads_declared st (c ∷ cs) cs' zero k t agree =
    agree_less c (call_at cs' zero) (spans_by st (shape c) k) (declares st c k) (succeeded (succeeds st c) (spans_by st (shape c) k) t) agree
reads_declared st (c ∷ cs) [] (suc j) k t agree =
    reads_declared (after st c) cs [] j k t
    (agree_less (call_at cs j) (call_at [] j) (declared (after st c) cs j k) (declared st (c ∷ cs) (suc j) k) (λ s i. Memᴰ.append_right (declares st c k) i) agree)
reads_declared st (c ∷ cs) (c' ∷ cs') (suc j) k t agree =
    reads_declared (after st c) cs cs' j k t
    (agree_less (call_at cs j) (call_at cs' j) (declared (after st c) cs j k) (declared st (c ∷ cs) (suc j) k) (λ s i. Memᴰ.append_right (declares st c k) i) agree)

-- ---- two sessions that are alike but for sample bytes and for what their slices held

module _ (p : Params) (a b : State) (oa : (open_call p a).number ≡ 0) (ob : (open_call p b).number ≡ 0) (cs cs' : List Call) (e : map shape cs ≡ map shape cs') where
  allowed : Allowed p
  allowed = (opens p a oa).1

  first : begun p a ≡ opened p
  first = (opens p a oa).0

  second : begun p b ≡ opened p
  second = (opens p b ob).0

  -- the places that are declared, and the voices that are routed
  pub places_same : (r k : ℕ) → (declared (begun p a) cs r k ≡ declared (begun p b) cs' r k) × (routed (begun p a) cs r k ≡ routed (begun p b) cs' r k)
  places_same r k =
      let h = opened_both p None allowed in
      let d = declared_same k h cs cs' e r in
      let t = routed_same k h cs cs' e r in
      ((λ i. declared (first i) cs r k) ∙ d ∙ (λ i. declared (sym second i) cs' r k), (λ i. routed (first i) cs r k) ∙ t ∙ (λ i. routed (sym second i) cs' r k))

  -- the frames, where the memories agree on no more than what is read
  pub frames_by_reads : (r : ℕ) → ReadCondition p (begun p a) cs cs' r → frames_at (begun p a) cs r ≡ frames_at (begun p b) cs' r
  frames_by_reads r condition =
      let P : ℕ → Type 0 = λ k. T (routed (opened p) cs r k) in
      let fair = subst (λ (st : State). ReadCondition p st cs cs' r) first condition in
      let same = frames_same P cs cs' r (opened_both p P allowed) e (opened_silent p P) (λ k l t. t) (λ j l k q t s. fair j l k q t s) in
      (λ i. frames_at (first i) cs r) ∙ same ∙ (λ i. frames_at (sym second i) cs' r)

  pub demand3 : Demand3 p a b cs cs'
  demand3 = record {
    said = (λ i. said_all (first i) cs) ∙ said_same (opened_both p None allowed) cs cs' e ∙ (λ i. said_all (sym second i) cs');
    frames = λ r condition. frames_by_reads r (λ j l k q t s. reads_declared (begun p a) cs cs' j k s (condition j l k q t s));
  }
