-- Two lists of calls, one behind the other: the state, what is said and the frames. Assumes nothing.
use mathlib.Core.Path.{◌≡◌, refl, ap, sym, ◌∙◌}
use mathlib.Core.List.{List, [], ◌∷◌, ◌++◌, append_assoc}
use Prim.Native.Nat.{ℕ, zero, suc, ◌+◌, ◌<◌}
use native.Mathlib.Nat.{zero-add, suc-add}
use native.Mathlib.Omega.{arith}
use lib.Ieee.{Float}
use lib.ListN.{length}
use Rattle.state.specs.State.{State}
use Rattle.secrecy.specs.Sessions.{Call, after, Said, said, frames_by, state_at, said_all, frames_at}
use Rattle.secrecy.specs.Demand.{call_at}
use Rattle.secrecy_items.specs.Flat.{frames_all, rounds_in}

-- what a list of calls leaves
abbrev pub left_by : State → List Call → State
left_by st cs = state_at st cs (length cs)

module _ (ys : List Call) where
  -- ---- place by place

  pub state_behind : (st : State) (xs : List Call) (r : ℕ) → state_at st (xs ++ ys) (length xs + r) ≡ state_at (left_by st xs) ys r
  state_behind st [] r = ap (state_at st ys) (zero-add r)
  state_behind st (c ∷ xs) r = ap (state_at st (c ∷ (xs ++ ys))) (suc-add (length xs) r) ∙ state_behind (after st c) xs r

  pub call_behind : (xs : List Call) (r : ℕ) → call_at (xs ++ ys) (length xs + r) ≡ call_at ys r
  call_behind [] r = ap (call_at ys) (zero-add r)
  call_behind (c ∷ xs) r = ap (call_at (c ∷ (xs ++ ys))) (suc-add (length xs) r) ∙ call_behind xs r

  pub frames_behind : (st : State) (xs : List Call) (r : ℕ) → frames_at st (xs ++ ys) (length xs + r) ≡ frames_at (left_by st xs) ys r
  frames_behind st [] r = ap (frames_at st ys) (zero-add r)
  frames_behind st (c ∷ xs) r = ap (frames_at st (c ∷ (xs ++ ys))) (suc-add (length xs) r) ∙ frames_behind (after st c) xs r

  pub frames_before : (st : State) (xs : List Call) (r : ℕ) → r < length xs → frames_at st (xs ++ ys) r ≡ frames_at st xs r
  frames_before st [] r l = absurd (omega arith)
  frames_before st (c ∷ xs) zero l = refl
  frames_before st (c ∷ xs) (suc r) l = frames_before (after st c) xs r (omega arith)

  -- ---- all together

  pub said_behind : (st : State) (xs : List Call) → said_all st (xs ++ ys) ≡ said_all st xs ++ said_all (left_by st xs) ys
  said_behind st [] = refl
  said_behind st (c ∷ xs) = ap (λ (ss : List Said). said st c ∷ ss) (said_behind (after st c) xs)

  pub all_behind : (st : State) (xs : List Call) → frames_all st (xs ++ ys) ≡ frames_all st xs ++ frames_all (left_by st xs) ys
  all_behind st [] = refl
  all_behind st (c ∷ xs) =
      ap (λ (fs : List Float). frames_by st c ++ fs) (all_behind (after st c) xs) ∙ sym (append_assoc (frames_by st c) _ _)

pub rounds_behind : (ss ts : List Said) → rounds_in (ss ++ ts) ≡ rounds_in ss + rounds_in ts
rounds_behind [] ts = omega arith
rounds_behind (s ∷ ss) ts = omega (arith, rounds_behind ss ts)

-- ---- lists whose frames are equal place by place

pub all_same : (s t : State) (xs ys : List Call) → length xs ≡ length ys → ((j : ℕ) → j < length xs → frames_at s xs j ≡ frames_at t ys j)
    → frames_all s xs ≡ frames_all t ys
all_same s t [] [] e h = refl
all_same s t [] (d ∷ ys) e h = absurd (omega arith)
all_same s t (c ∷ xs) [] e h = absurd (omega arith)
all_same s t (c ∷ xs) (d ∷ ys) e h =
    let first = h zero (omega arith) in
    let rest = all_same (after s c) (after t d) xs ys (omega arith) (λ j l. h (suc j) (omega arith)) in
    λ i. first i ++ rest i
