-- Demand 3: over a whole list of calls, what replies, refusals, rounds and frames may depend on. Definitions only.
use Rattle.std.specs.Prelude.{◌≡◌, ℕ, zero, suc, ◌+◌, ◌-◌, ◌≤◌, ◌<◌, T, get_or}
use mathlib.Core.List.{List, [], ◌∷◌, Memᴰ}
use Rattle.ranges.specs.Ranges.{Range}
use Rattle.params.specs.declared.params.Params.{Params}
use Rattle.state.specs.State.{State}
use Rattle.calls.specs.Calls.{open_call}
use Rattle.alike.specs.Reads.{Span}
use Rattle.secrecy.specs.Sessions.{Call, update, render, shape, succeeds, state_at, said_all, frames_at}
use Rattle.secrecy.specs.Declared.{Covered, spans_by, declared, routed}

-- ---- two memories that agree

-- on the bytes of these spans that lie inside: in each range, at each of its addresses that a span covers
abbrev pub Agree : List Range → List ℕ → List ℕ → List Span → Type 0
Agree rs m m' spans =
    (r : Range) → Memᴰ r rs → (x : ℕ) → r.base ≤ x → x < r.base + r.size → Covered spans x
    → get_or m (r.start + (x - r.base)) 0 ≡ get_or m' (r.start + (x - r.base)) 0

-- those of two renders; an update has none
abbrev pub AgreeOn : Call → Call → List Span → Type 0
AgreeOn (render rs m frames) (render rs' m' frames') spans = Agree rs m m' spans
AgreeOn (render rs m frames) (update expected' input' reply') spans = Unit {0}
AgreeOn (update expected input reply) c' spans = Unit {0}

-- ---- the condition of a render R: at R and each render before it that succeeds, for every voice that is routed at any time before R

abbrev pub call_at : List Call → ℕ → Call
call_at [] r = update 0 [] []
call_at (c ∷ cs) zero = c
call_at (c ∷ cs) (suc r) = call_at cs r

-- by the spans on which the memories must agree at call j for voice k
abbrev pub ConditionBy : (ℕ → ℕ → List Span) → Params → State → List Call → List Call → ℕ → Type 0
ConditionBy spans p st cs cs' r =
    (j : ℕ) → j ≤ r → (k : ℕ) → k < p.voices → T (routed st cs r k) → T (succeeds (state_at st cs j) (call_at cs j))
    → AgreeOn (call_at cs j) (call_at cs' j) (spans j k)

-- on the bytes that the voice has declared by then
abbrev pub Condition : Params → State → List Call → List Call → ℕ → Type 0
Condition p st cs cs' r = ConditionBy (declared st cs) p st cs cs' r

-- on the bytes alone that the voice reads then
abbrev pub ReadCondition : Params → State → List Call → List Call → ℕ → Type 0
ReadCondition p st cs cs' r = ConditionBy (λ j k. spans_by (state_at st cs j) (shape (call_at cs j)) k) p st cs cs' r

-- ---- two sessions with the same parameters, opened on the slices a and b

abbrev pub begun : Params → State → State
begun p a = (open_call p a).state

-- at each place of the lists: what is said is the same, and so are the frames where the condition holds
pub record Demand3 (p : Params) (a b : State) (cs cs' : List Call) : Type 0 where
  pub said : said_all (begun p a) cs ≡ said_all (begun p b) cs'
  pub frames : (r : ℕ) → Condition p (begun p a) cs cs' r → frames_at (begun p a) cs r ≡ frames_at (begun p b) cs' r
