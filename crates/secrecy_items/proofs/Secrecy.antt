-- Demand 3 holds of sessions with song sections; the places that are declared, the order of sub_mixes and the positions are the same too.
-- Assumes nothing.
use mathlib.Core.Path.{◌≡◌, ap, sym, ◌∙◌}
use mathlib.Core.List.{List, map}
use Prim.Native.Nat.{ℕ, ◌+◌, ◌<◌}
use lib.ListN.{length}
use Rattle.params.specs.declared.params.Params.{Params}
use Rattle.state.specs.State.{State}
use Rattle.calls.specs.Calls.{open_call, order_call}
use Rattle.secrecy.specs.Sessions.{said, state_at, frames_at}
use Rattle.secrecy.specs.Declared.{declared, routed}
use Rattle.secrecy.specs.Demand.{ReadCondition, begun}
use Rattle.secrecy.proofs.Lists.{None}
use Rattle.secrecy.specs.Opens.{begun_both}
use Rattle.secrecy.proofs.Secrecy.{demand3, places_same, frames_by_reads}
use Rattle.secrecy.proofs.Orders.{orders_same}
use Rattle.secrecy.proofs.Positions.{empty_update, positions_same}
use Rattle.secrecy_items.specs.Items.{Item, item_shape, state_at_item, frames_at_item}
use Rattle.secrecy_items.specs.Flat.{flat, calls_of_item, place_of}
use Rattle.secrecy_items.specs.Demand.{Demand3Items}
use Rattle.secrecy_items.proofs.Behind.{all_same}
use Rattle.secrecy_items.proofs.Flats.{flat_state, item_frames, place_frames}
use Rattle.secrecy_items.proofs.Alikes.{ItemsAlike, items_alike}

-- two sessions that are alike but for sample bytes and for what their slices held, cut into single and joined renders in the same way
module _ (p : Params) (a b : State) (oa : (open_call p a).number ≡ 0) (ob : (open_call p b).number ≡ 0) (xs xs' : List Item)
    (e : map item_shape xs ≡ map item_shape xs') where
  alike : ItemsAlike (begun p a) (begun p b) xs xs'
  alike = items_alike (begun_both p None a b oa ob) xs xs' e

  -- the frames of an item, where those of the renders that stand for it are equal
  module _ (r : ℕ) (each : (j : ℕ) → j < length (calls_of_item (begun p a) xs r)
      → frames_at (begun p a) (flat (begun p a) xs) (place_of (begun p a) xs r + j)
      ≡ frames_at (begun p b) (flat (begun p b) xs') (place_of (begun p a) xs r + j)) where
    frames_by_lem : frames_at_item (begun p a) xs r ≡ frames_at_item (begun p b) xs' r
    frames_by_lem =
        let one = begun p a in
        let two = begun p b in
        let there : (j : ℕ) → j < length (calls_of_item one xs r)
        → frames_at (state_at_item one xs r) (calls_of_item one xs r) j ≡ frames_at (state_at_item two xs' r) (calls_of_item two xs' r) j =
        λ j l.
        let l' : j < length (calls_of_item two xs' r) = rw (alike.many r) at l in
        sym (place_frames one xs r j l)
        ∙ each j l
        ∙ ap (λ (n : ℕ). frames_at two (flat two xs') (n + j)) (alike.place r)
        ∙ place_frames two xs' r j l' in
        item_frames one xs r
        ∙ all_same (state_at_item one xs r) (state_at_item two xs' r) (calls_of_item one xs r) (calls_of_item two xs' r) (alike.many r) there
        ∙ sym (item_frames two xs' r)

  pub demand3_items : Demand3Items p a b xs xs'
  demand3_items =
      let renders = demand3 p a b oa ob (flat (begun p a) xs) (flat (begun p b) xs') alike.shapes in
      record {
        said = alike.said;
        shapes = alike.shapes;
        renders = renders;
        frames = λ r condition. frames_by_lem r (λ j l. renders.frames (place_of (begun p a) xs r + j) (condition j l));
      }

  -- the frames of an item, where the memories agree on no more than what is read at its renders and before
  pub item_frames_by_reads : (r : ℕ)
      → ((j : ℕ) → j < length (calls_of_item (begun p a) xs r)
      → ReadCondition p (begun p a) (flat (begun p a) xs) (flat (begun p b) xs') (place_of (begun p a) xs r + j))
      → frames_at_item (begun p a) xs r ≡ frames_at_item (begun p b) xs' r
  item_frames_by_reads r condition =
      let same = frames_by_reads p a b oa ob (flat (begun p a) xs) (flat (begun p b) xs') alike.shapes in
      frames_by_lem r (λ j l. same (place_of (begun p a) xs r + j) (condition j l))

  -- the places that are declared and the voices that are routed, by each call of the flat lists
  pub item_places_same : (r k : ℕ)
      → (declared (begun p a) (flat (begun p a) xs) r k ≡ declared (begun p b) (flat (begun p b) xs') r k)
      × (routed (begun p a) (flat (begun p a) xs) r k ≡ routed (begun p b) (flat (begun p b) xs') r k)
  item_places_same = places_same p a b oa ob (flat (begun p a) xs) (flat (begun p b) xs') alike.shapes

  -- ---- asked before item r

  state_there : (r : ℕ) → state_at (begun p b) (flat (begun p b) xs') (place_of (begun p a) xs r) ≡ state_at_item (begun p b) xs' r
  state_there r = ap (state_at (begun p b) (flat (begun p b) xs')) (alike.place r) ∙ flat_state (begun p b) xs' r

  -- the order of sub_mixes
  pub item_orders_same : (r : ℕ) → order_call (state_at_item (begun p a) xs r) ≡ order_call (state_at_item (begun p b) xs' r)
  item_orders_same r =
      ap order_call (sym (flat_state (begun p a) xs r))
      ∙ orders_same p a b oa ob (flat (begun p a) xs) (flat (begun p b) xs') alike.shapes (place_of (begun p a) xs r)
      ∙ ap order_call (state_there r)

  -- the positions
  pub item_positions_same : (r expected : ℕ) (reply reply' : List ℕ) → length reply ≡ length reply'
      → (let asked = state_at_item (begun p a) xs r in
      said asked (empty_update expected reply) ≡ said (state_at_item (begun p b) xs' r) (empty_update expected reply'))
  item_positions_same r expected reply reply' l =
      let same = positions_same p a b oa ob (flat (begun p a) xs) (flat (begun p b) xs') alike.shapes in
      ap (λ (st : State). said st (empty_update expected reply)) (sym (flat_state (begun p a) xs r))
      ∙ same (place_of (begun p a) xs r) expected reply reply' l
      ∙ ap (λ (st : State). said st (empty_update expected reply')) (state_there r)
