-- Demand 3 of sessions with song sections, cut into single and joined renders in the same way. Definitions only.
use Rattle.std.specs.Prelude.{◌≡◌, List, map, ℕ, ◌+◌, ◌<◌, length}
use Rattle.params.specs.declared.params.Params.{Params}
use Rattle.state.specs.State.{State}
use Rattle.secrecy.specs.Sessions.{shape}
use Rattle.secrecy.specs.Demand.{Condition, begun, Demand3}
use Rattle.secrecy_items.specs.Items.{Item, said_items, frames_at_item}
use Rattle.secrecy_items.specs.Flat.{flat, calls_of_item, place_of}

-- the condition of item r: that of each render that stands for it, in the flat lists
abbrev pub ItemCondition : Params → State → State → List Item → List Item → ℕ → Type 0
ItemCondition p st st' xs xs' r =
    (j : ℕ) → j < length (calls_of_item st xs r) → Condition p st (flat st xs) (flat st' xs') (place_of st xs r + j)

-- two sessions with the same parameters, opened on the slices a and b
pub record Demand3Items (p : Params) (a b : State) (xs xs' : List Item) : Type 0 where
  -- what is said of each item is the same
  pub said : said_items (begun p a) xs ≡ said_items (begun p b) xs'
  -- the flat lists have equal shapes, and document 01's demand holds of them, render by render
  pub shapes : map shape (flat (begun p a) xs) ≡ map shape (flat (begun p b) xs')
  pub renders : Demand3 p a b (flat (begun p a) xs) (flat (begun p b) xs')
  -- the frames of an item are the same where the condition of each of its renders holds
  pub frames : (r : ℕ) → ItemCondition p (begun p a) (begun p b) xs xs' r → frames_at_item (begun p a) xs r ≡ frames_at_item (begun p b) xs' r
