-- A list of items and its flat list: the states are the same, and so are what is said and the frames. Assumes nothing.
use mathlib.Core.Path.{◌≡◌, refl, ap, sym, ◌∙◌}
use mathlib.Core.List.{List, [], ◌∷◌, ◌++◌, map}
use Prim.Native.Nat.{ℕ, zero, suc, ◌+◌, ◌<◌}
use native.Mathlib.Nat.{zero-add, add_assoc}
use native.Mathlib.Omega.{arith}
use lib.Ieee.{Float}
use lib.ListN.{length, take, length-append}
use lib.Seq.{take-length}
use Rattle.state.specs.State.{State}
use Rattle.secrecy.specs.Sessions.{Call, after, Said, said, state_at, said_all, frames_at}
use Rattle.secrecy.specs.Demand.{call_at}
use Rattle.secrecy_items.specs.Items.{Item, single, section, item_at, after_item, said_item, frames_item}
use Rattle.secrecy_items.specs.Items.{state_at_item, said_items, frames_at_item, frames_items}
use Rattle.secrecy_items.specs.Flat.{calls_in, flat, calls_of_item, place_of, frames_all, rounds_in}
use Rattle.secrecy_items.proofs.Behind.{left_by, state_behind, call_behind, frames_behind, frames_before}
use Rattle.secrecy_items.proofs.Behind.{said_behind, all_behind, rounds_behind}
use Rattle.secrecy_items.proofs.Joins.{item_same}

-- ---- single calls alone: the flat list is the calls, and the same is said of them

pub singles_flat : (st : State) (cs : List Call) → flat st (map single cs) ≡ cs
singles_flat st [] = refl
singles_flat st (c ∷ cs) = ap (λ (ds : List Call). c ∷ ds) (singles_flat (after st c) cs)

pub singles_said : (st : State) (cs : List Call) → said_items st (map single cs) ≡ said_all st cs
singles_said st [] = refl
singles_said st (c ∷ cs) = ap (λ (ss : List Said). said st c ∷ ss) (singles_said (after st c) cs)

-- ---- states

-- the state at item r is the one at its place in the flat list
pub flat_state : (st : State) (xs : List Item) (r : ℕ) → state_at st (flat st xs) (place_of st xs r) ≡ state_at_item st xs r
flat_state st [] r = refl
flat_state st (x ∷ xs) zero = start (calls_in st x ++ flat (after_item st x) xs)
  where
    start : (cs : List Call) → state_at st cs 0 ≡ st
    start [] = refl
    start (c ∷ cs) = refl
flat_state st (x ∷ xs) (suc r) =
    state_behind (flat (after_item st x) xs) st (calls_in st x) (place_of (after_item st x) xs r)
    ∙ ap (λ (u : State). state_at u (flat (after_item st x) xs) (place_of (after_item st x) xs r)) (item_same st x).state
    ∙ flat_state (after_item st x) xs r

-- that place is the length of the flat list of the items before
pub place_is : (st : State) (xs : List Item) (r : ℕ) → place_of st xs r ≡ length (flat st (take r xs))
place_is st [] zero = refl
place_is st [] (suc r) = refl
place_is st (x ∷ xs) zero = refl
place_is st (x ∷ xs) (suc r) =
    ap (λ (n : ℕ). length (calls_in st x) + n) (place_is (after_item st x) xs r)
    ∙ sym (length-append (calls_in st x) (flat (after_item st x) (take r xs)))

-- so all items leave the state of their flat list
pub flat_left : (st : State) (xs : List Item) → left_by st (flat st xs) ≡ state_at_item st xs (length xs)
flat_left st xs =
    let place = place_is st xs (length xs) ∙ ap (λ (ys : List Item). length (flat st ys)) (take-length xs) in
    ap (state_at st (flat st xs)) (sym place) ∙ flat_state st xs (length xs)

-- ---- what is said

-- the same rounds in sum
pub flat_said : (st : State) (xs : List Item) → rounds_in (said_all st (flat st xs)) ≡ rounds_in (said_items st xs)
flat_said st [] = refl
flat_said st (x ∷ xs) =
    let rest = flat (after_item st x) xs in
    ap rounds_in (said_behind rest st (calls_in st x))
    ∙ rounds_behind (said_all st (calls_in st x)) _
    ∙ (λ i. (item_same st x).sum i + rounds_in (said_all ((item_same st x).state i) rest))
    ∙ ap (λ (n : ℕ). (said_item st x).rounds + n) (flat_said (after_item st x) xs)

-- at a single call the same
pub flat_single : (st : State) (xs : List Item) (r : ℕ) (c : Call) → item_at xs r ≡ single c
    → said (state_at st (flat st xs) (place_of st xs r)) (call_at (flat st xs) (place_of st xs r)) ≡ said_item (state_at_item st xs r) (single c)
flat_single st xs r c e = λ i. said (flat_state st xs r i) (there st xs r c e i)
  where
    there : (st : State) (xs : List Item) (r : ℕ) (c : Call) → item_at xs r ≡ single c → call_at (flat st xs) (place_of st xs r) ≡ c
    there st [] r c e = cc
    there st (single d ∷ xs) zero c e = cc
    there st (section count rs m frames ∷ xs) zero c e = let z : ◌≡◌ {A = ℕ} 0 1 = cc in absurd (omega arith)
    there st (x ∷ xs) (suc r) c e =
        call_behind (flat (after_item st x) xs) (calls_in st x) (place_of (after_item st x) xs r) ∙ there (after_item st x) xs r c e

-- ---- frames

-- those of all items are those of the flat list, in order
pub flat_frames : (st : State) (xs : List Item) → frames_all st (flat st xs) ≡ frames_items st xs
flat_frames st [] = refl
flat_frames st (x ∷ xs) =
    let rest = flat (after_item st x) xs in
    all_behind rest st (calls_in st x)
    ∙ (λ i. (item_same st x).all i ++ frames_all ((item_same st x).state i) rest)
    ∙ ap (λ (fs : List Float). frames_item st x ++ fs) (flat_frames (after_item st x) xs)

-- those of item r are those of the calls that stand for it, which have their places in the flat list
pub item_frames : (st : State) (xs : List Item) (r : ℕ) → frames_at_item st xs r ≡ frames_all (state_at_item st xs r) (calls_of_item st xs r)
item_frames st [] r = refl
item_frames st (x ∷ xs) zero = sym (item_same st x).all
item_frames st (x ∷ xs) (suc r) = item_frames (after_item st x) xs r

pub place_frames : (st : State) (xs : List Item) (r j : ℕ) → j < length (calls_of_item st xs r)
    → frames_at st (flat st xs) (place_of st xs r + j) ≡ frames_at (state_at_item st xs r) (calls_of_item st xs r) j
place_frames st [] r j l = refl
place_frames st (x ∷ xs) zero j l =
    ap (frames_at st (flat st (x ∷ xs))) (zero-add j) ∙ frames_before (flat (after_item st x) xs) st (calls_in st x) j l
place_frames st (x ∷ xs) (suc r) j l =
    let rest = flat (after_item st x) xs in
    let at = place_of (after_item st x) xs r in
    ap (frames_at st (calls_in st x ++ rest)) (add_assoc (length (calls_in st x)) at j)
    ∙ frames_behind rest st (calls_in st x) (at + j)
    ∙ ap (λ (u : State). frames_at u rest (at + j)) (item_same st x).state
    ∙ place_frames (after_item st x) xs r j l
