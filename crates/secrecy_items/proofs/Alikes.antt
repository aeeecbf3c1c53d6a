-- Items at the same place of two sessions, whatever sample memory holds: the same is said of both, the calls that stand for them have equal
-- shapes, and the states stay alike. Assumes nothing.
use mathlib.Core.Path.{◌≡◌, refl, ap, sym, subst, ◌∙◌}
use mathlib.Core.Bool.{Bool, true, false, cond}
use mathlib.Core.List.{List, [], ◌∷◌, ◌++◌, map, map-append, nil≢cons, cons≢nil, head-eq_of_cons-eq, tail-eq_of_cons-eq}
use Prim.Native.Nat.{ℕ, zero, suc, ◌+◌, ◌-◌, ◌*◌}
use native.Mathlib.Omega.{arith}
use lib.Dec.{leb, eqb}
use lib.Ieee.{Float}
use lib.ListN.{length, drop, length-drop, length-map}
use Rattle.ranges.specs.Ranges.{Range}
use Rattle.ranges.specs.Questions.{laid_of, near_of}
use Rattle.params.specs.declared.params.Params.{Params}
use Rattle.state.specs.State.{State, params_in}
use Rattle.whole.specs.Whole.{Whole, whole_of, whole_is}
use Rattle.calls.specs.Sections.{wide_in, most_renders, section_call}
use Rattle.renders.proofs.Sections.{number_by, section_number_lem}
use Rattle.secrecy.specs.Sessions.{Call, shape, state_at}
use Rattle.secrecy.specs.Both.{Both, params_same}
use Rattle.secrecy.proofs.Lists.{None, unasked, said_same, both_at}
use Rattle.secrecy.proofs.Shared.{nothing_else}
use Rattle.secrecy_items.specs.Items.{Item, single, section, item_shape, after_item, said_item, said_items}
use Rattle.secrecy_items.specs.Flat.{renders_from, calls_in, flat, calls_of_item, place_of, rounds_in}
use Rattle.secrecy_items.proofs.Behind.{left_by}
use Rattle.secrecy_items.proofs.Joins.{item_same}

-- lists of equal shapes are equally long
as_long : (cs cs' : List Call) → map shape cs ≡ map shape cs' → length cs ≡ length cs'
as_long cs cs' e = sym (length-map cs shape) ∙ ap length e ∙ length-map cs' shape

-- ---- an item

pub record ItemsStepped (p : Params) (a b : State) (x x' : Item) : Type 0 where
  pub shapes : map shape (calls_in a x) ≡ map shape (calls_in b x')
  pub same : said_item a x ≡ said_item b x'
  pub both : Both p None (after_item a x) (after_item b x')

renders_shapes : (count wide : ℕ) (rs : List Range) (m m' : List ℕ) (frames frames' : List Float) → length m ≡ length m'
    → length frames ≡ length frames' → map shape (renders_from count wide rs m frames) ≡ map shape (renders_from count wide rs m' frames')
renders_shapes zero wide rs m m' frames frames' long w = refl
renders_shapes (suc k) wide rs m m' frames frames' long w =
    let first = nothing_else rs m m' frames frames' long w in
    let less = length-drop wide frames ∙ ap (λ (n : ℕ). n - wide) w ∙ sym (length-drop wide frames') in
    let rest = renders_shapes k wide rs m m' (drop wide frames) (drop wide frames') long less in
    λ i. first i ∷ rest i

-- of calls that stand there or don't
if_shapes : (t : Bool) (cs cs' : List Call) → map shape cs ≡ map shape cs' → map shape (cond t cs []) ≡ map shape (cond t cs' [])
if_shapes true cs cs' e = e
if_shapes false cs cs' e = refl

-- a section's questions are answered by what is shared, where both states are whole and have the same parameters
pub section_answers : {a b : State} → Whole a → Whole b → params_in a ≡ params_in b → (count : ℕ) (rs : List Range) (m m' : List ℕ)
    (frames frames' : List Float) → length m ≡ length m' → length frames ≡ length frames'
    → (section_call a count rs m frames).number ≡ (section_call b count rs m' frames').number
section_answers {a} {b} wa wb params count rs m m' frames frames' long wide =
    let whole : whole_of a ≡ whole_of b = whole_is a wa ∙ sym (whole_is b wb) in
    section_number_lem a count rs m frames
    ∙ (λ i. number_by (whole i) (laid_of (long i) rs) (near_of rs) (leb count most_renders)
    (leb (count * (2 * (params i).sample_count)) (wide i)))
    ∙ sym (section_number_lem b count rs m' frames')

module _ {p : Params} {a b : State} (h : Both p None a b) where
  -- what two lists of calls leave, and so what two items leave
  left_both : (cs cs' : List Call) → map shape cs ≡ map shape cs' → Both p None (left_by a cs) (left_by b cs')
  left_both cs cs' e = subst (λ (n : ℕ). Both p None (left_by a cs) (state_at b cs' n)) (as_long cs cs' e) (both_at h cs cs' e (length cs))

  item_both : (x x' : Item) → map shape (calls_in a x) ≡ map shape (calls_in b x') → Both p None (after_item a x) (after_item b x')
  item_both x x' e =
      subst (λ (u : State). Both p None u (after_item b x')) (item_same a x).state
      (subst (Both p None (left_by a (calls_in a x))) (item_same b x').state (left_both (calls_in a x) (calls_in b x') e))

  -- a section
  module _ (count : ℕ) (rs : List Range) (m m' : List ℕ) (frames frames' : List Float) (long : length m ≡ length m')
      (wide : length frames ≡ length frames') where
    number_same : (section_call a count rs m frames).number ≡ (section_call b count rs m' frames').number
    number_same = section_answers h.left h.right (params_same h.alike) count rs m m' frames frames' long wide

    section_shapes : map shape (calls_in a (section count rs m frames)) ≡ map shape (calls_in b (section count rs m' frames'))
    section_shapes =
        let params = params_same h.alike in
        let is = renders_shapes count (wide_in a) rs m m' frames frames' long wide
        ∙ (λ i. map shape (renders_from count (2 * (params i).sample_count) rs m' frames')) in
        if_shapes (eqb (section_call a count rs m frames).number 0) (renders_from count (wide_in a) rs m frames)
        (renders_from count (wide_in b) rs m' frames') is
        ∙ (λ i. map shape (cond (eqb (number_same i) 0) (renders_from count (wide_in b) rs m' frames') []))

    sections_step : ItemsStepped p a b (section count rs m frames) (section count rs m' frames')
    sections_step =
        let x = section count rs m frames in
        let x' = section count rs m' frames' in
        let rounds = sym (item_same a x).sum
        ∙ ap rounds_in (said_same h (calls_in a x) (calls_in b x') section_shapes)
        ∙ (item_same b x').sum in
        record {
          shapes = section_shapes;
          same = λ i. record { number = number_same i; size = 0; reply = []; rounds = rounds i };
          both = item_both x x' section_shapes;
        }

  pub item_step : (x x' : Item) → item_shape x ≡ item_shape x' → ItemsStepped p a b x x'
  item_step (single c) (single c') e =
      let same : shape c ≡ shape c' = cc in
      let s = unasked h c c' same in
      record { shapes = λ i. same i ∷ []; same = s.same; both = s.both }
  item_step (section count rs m frames) (section count' rs' m' frames') e =
      let counts : count ≡ count' = cc in
      let ranges : rs ≡ rs' = cc in
      subst (ItemsStepped p a b (section count rs m frames)) (λ i. section (counts i) (ranges i) m' frames')
      (sections_step count rs m m' frames frames' (cc) (cc))
  item_step (single c) (section count' rs' m' frames') e = let z : ◌≡◌ {A = ℕ} 0 1 = cc in absurd (omega arith)
  item_step (section count rs m frames) (single c') e = let z : ◌≡◌ {A = ℕ} 0 1 = cc in absurd (omega arith)

-- ---- a list of items

-- the flat lists have equal shapes, the same is said of each item, and the calls that stand for it have the same places
pub record ItemsAlike (a b : State) (xs xs' : List Item) : Type 0 where
  pub shapes : map shape (flat a xs) ≡ map shape (flat b xs')
  pub said : said_items a xs ≡ said_items b xs'
  pub place : (r : ℕ) → place_of a xs r ≡ place_of b xs' r
  pub many : (r : ℕ) → length (calls_of_item a xs r) ≡ length (calls_of_item b xs' r)

pub items_alike : {p : Params} {a b : State} → Both p None a b → (xs xs' : List Item) → map item_shape xs ≡ map item_shape xs'
    → ItemsAlike a b xs xs'
items_alike h [] [] e = record { shapes = refl; said = refl; place = λ r. refl; many = λ r. refl }
items_alike h [] (x' ∷ xs') e = absurd (nil≢cons e)
items_alike h (x ∷ xs) [] e = absurd (cons≢nil e)
items_alike {a = a} {b = b} h (x ∷ xs) (x' ∷ xs') e =
    let s = item_step h x x' (head-eq_of_cons-eq e) in
    let rest = items_alike {a = after_item a x} {b = after_item b x'} s.both xs xs' (tail-eq_of_cons-eq e) in
    let first = as_long (calls_in a x) (calls_in b x') s.shapes in
    let place : (r : ℕ) → place_of a (x ∷ xs) r ≡ place_of b (x' ∷ xs') r = elim [ zero ↦ refl | suc r ↦ λ i. first i + rest.place r i ] in
    let many : (r : ℕ) → length (calls_of_item a (x ∷ xs) r) ≡ length (calls_of_item b (x' ∷ xs') r) =
    elim [ zero ↦ first | suc r ↦ rest.many r ] in
    record {
      shapes = map-append shape (calls_in a x) (flat (after_item a x) xs)
          ∙ (λ i. s.shapes i ++ rest.shapes i)
          ∙ sym (map-append shape (calls_in b x') (flat (after_item b x') xs'));
      said = λ i. s.same i ∷ rest.said i;
      place = place;
      many = many;
    }
