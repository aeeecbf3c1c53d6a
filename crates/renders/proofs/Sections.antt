-- A section by its questions; a section of no render, of one, and of more. Assumes nothing.
use mathlib.Core.Path.{◌≡◌, refl, ap, sym, subst, ◌∙◌}
use mathlib.Core.Bool.{Bool, true, false, cond, true≢false}
use mathlib.Core.List.{List, ◌++◌}
use Prim.Native.Nat.{ℕ, zero, suc, ◌+◌, ◌*◌, ◌≤◌}
use native.Mathlib.Nat.{suc-mul}
use native.Mathlib.Omega.{arith}
use borrow.Author.Tests.{leb-true, le-leb}
use lib.Dec.{leb, eqb}
use lib.Ieee.{Float}
use lib.ListN.{length, take, drop, length-drop, take-append-drop}
use Rattle.ranges.specs.Ranges.{Range}
use Rattle.ranges.specs.Ascending.{Ascending}
use Rattle.ranges.specs.Questions.{laid_of, near_of}
use Rattle.ranges.proofs.Questions.{laid_facts}
use Rattle.params.specs.declared.params.Params.{Params}
use Rattle.state.specs.State.{State, params_in}
use Rattle.whole.specs.Whole.{Whole, whole_of, whole_facts, whole_is}
use Rattle.render_keeps.specs.Keeps.{render_params, render_whole}
use Rattle.calls.specs.Calls.{RenderOutcome, render_left, render_done, render_call}
use Rattle.calls.specs.Sections.{wide_in, section_done, most_renders, section_call}
use Rattle.renders.proofs.OneRender.{done_behind, done_front}

-- ---- by the answers

-- a section that is done answers 0
pub done_number : (count : ℕ) (st : State) (rs : List Range) (m : List ℕ) (frames : List Float)
    → (section_done count st rs m frames).number ≡ 0
unfolding section_done
done_number zero st rs m frames = refl
done_number (suc k) st rs m frames = refl

-- the number by the answers to questions 4, 13, 5, 14 and 7
unfoldable pub number_by : Bool → Bool → Bool → Bool → Bool → ℕ
number_by whole laid near few room = cond whole (cond laid (cond near (cond few (cond room 0 7) 14) 5) 13) 4

module _ (st : State) (count : ℕ) (rs : List Range) (m : List ℕ) (frames : List Float) where
  -- a section by the answers to questions 4, 13, 5, 14 and 7
  section_by : Bool → Bool → Bool → Bool → Bool → RenderOutcome
  section_by whole laid near few room =
      cond whole
      (cond laid
      (cond near
      (cond few (cond room (section_done count st rs m frames) (render_left 7 0 st frames)) (render_left 14 0 st frames))
      (render_left 5 0 st frames))
      (render_left 13 0 st frames))
      (render_left 4 0 st frames)

  -- whether there is room for the frames
  abbrev pub frames_fit : Bool
  frames_fit = leb (count * wide_in st) (length frames)

  by_answers : (w l n f r : Bool) → (section_by w l n f r).number ≡ number_by w l n f r
  unfolding section_by number_by
  by_answers true true true true true = done_number count st rs m frames
  by_answers true true true true false = refl
  by_answers true true true false r = refl
  by_answers true true false f r = refl
  by_answers true false n f r = refl
  by_answers false l n f r = refl

  pub section_number_lem : (section_call st count rs m frames).number
      ≡ number_by (whole_of st) (laid_of (length m) rs) (near_of rs) (leb count most_renders) frames_fit
  unfolding section_call section_by
  section_number_lem = by_answers (whole_of st) (laid_of (length m) rs) (near_of rs) (leb count most_renders) frames_fit

  -- all five are answered "yes"
  pub record AllYes : Type 0 where
    pub whole : Whole st
    pub laid : laid_of (length m) rs ≡ true
    pub near : near_of rs ≡ true
    pub few : count ≤ most_renders
    pub room : count * wide_in st ≤ length frames

  -- ---- a section that succeeds

  yes_by : (w l n f r : Bool) → whole_of st ≡ w → laid_of (length m) rs ≡ l → near_of rs ≡ n → leb count most_renders ≡ f → frames_fit ≡ r
      → (section_by w l n f r).number ≡ 0 → AllYes
  unfolding section_by
  yes_by true true true true true ew el en ef er h =
      record { whole = whole_facts st ew; laid = el; near = en; few = leb-true _ _ ef; room = leb-true _ _ er }
  yes_by true true true true false ew el en ef er h = absurd (omega arith)
  yes_by true true true false r ew el en ef er h = absurd (omega arith)
  yes_by true true false f r ew el en ef er h = absurd (omega arith)
  yes_by true false n f r ew el en ef er h = absurd (omega arith)
  yes_by false l n f r ew el en ef er h = absurd (omega arith)

  pub section_yes : (section_call st count rs m frames).number ≡ 0 → AllYes
  unfolding section_call section_by
  section_yes h = yes_by (whole_of st) (laid_of (length m) rs) (near_of rs) (leb count most_renders) frames_fit refl refl refl refl refl h

  pub yes_done : AllYes → section_call st count rs m frames ≡ section_done count st rs m frames
  unfolding section_call
  yes_done y = rw (whole_is st y.whole, y.laid, y.near, le-leb count most_renders y.few, le-leb _ _ y.room)

  -- what is asked of memory is that its ranges ascend
  pub yes_ascending : AllYes → Ascending (length m) 0 rs
  yes_ascending y = laid_facts (length m) rs y.laid y.near

  -- ---- a section that is refused: its rounds are 0, and the state and the slice stay

  refused_by_lem : (w l n f r : Bool) → eqb (section_by w l n f r).number 0 ≡ false
      → section_by w l n f r ≡ render_left (section_by w l n f r).number 0 st frames
  unfolding section_by
  refused_by_lem true true true true true h = absurd (true≢false (sym (ap (λ (n : ℕ). eqb n 0) (done_number count st rs m frames)) ∙ h))
  refused_by_lem true true true true false h = refl
  refused_by_lem true true true false r h = refl
  refused_by_lem true true false f r h = refl
  refused_by_lem true false n f r h = refl
  refused_by_lem false l n f r h = refl

  pub section_refused : eqb (section_call st count rs m frames).number 0 ≡ false
      → section_call st count rs m frames ≡ render_left (section_call st count rs m frames).number 0 st frames
  unfolding section_call section_by
  section_refused = refused_by_lem (whole_of st) (laid_of (length m) rs) (near_of rs) (leb count most_renders) frames_fit

-- ---- a section of no render, and of one

module _ (st : State) (rs : List Range) (m : List ℕ) (frames : List Float) where
  none_by : (w l n f r : Bool)
      → section_by st 0 rs m frames w l n f r ≡ render_left (section_by st 0 rs m frames w l n f r).number 0 st frames
  unfolding section_by section_done
  none_by true true true true true = refl
  none_by true true true true false = refl
  none_by true true true false r = refl
  none_by true true false f r = refl
  none_by true false n f r = refl
  none_by false l n f r = refl

  -- none changes nothing, whether or not it is refused
  pub section_none : section_call st 0 rs m frames ≡ render_left (section_call st 0 rs m frames).number 0 st frames
  unfolding section_call section_by
  section_none = none_by (whole_of st) (laid_of (length m) rs) (near_of rs) (leb 0 most_renders) (frames_fit st 0 rs m frames)

  one_done : section_done 1 st rs m frames ≡ render_done st rs m frames
  unfolding section_done render_done
  one_done =
      let o = render_done st rs m frames in
      let rounds : o.rounds + 0 ≡ o.rounds = omega arith in
      λ i. render_left 0 (rounds i) o.state (take-append-drop (wide_in st) o.frames i)

  -- one is a render, whether or not it is refused
  pub section_one : section_call st 1 rs m frames ≡ render_call st rs m frames
  unfolding section_call render_call
  section_one =
      let wide : 1 * wide_in st ≡ wide_in st = omega arith in
      λ i. cond (whole_of st)
      (cond (laid_of (length m) rs)
      (cond (near_of rs) (cond (leb (wide i) (length frames)) (one_done i) (render_left 7 0 st frames)) (render_left 5 0 st frames))
      (render_left 13 0 st frames))
      (render_left 4 0 st frames)

-- ---- a section of more: the first render, and a section of the others

module _ (st : State) (k : ℕ) (rs : List Range) (m : List ℕ) (frames : List Float) where
  -- of an outcome of the first: it answers 0, and so does the section of the others; both together are the whole. The parameters stay, and
  -- so does what is behind its frames
  pub record FirstAndRest (o : RenderOutcome) : Type 0 where
    pub first : o.number ≡ 0
    pub rest : (section_call o.state k rs m (drop (wide_in st) o.frames)).number ≡ 0
    pub whole : (let rest = section_call o.state k rs m (drop (wide_in st) o.frames) in
        section_call st (suc k) rs m frames
        ≡ render_left 0 (o.rounds + rest.rounds) rest.state (take (wide_in st) o.frames ++ rest.frames))
    pub params : params_in o.state ≡ params_in st
    pub behind : drop (wide_in st) o.frames ≡ drop (wide_in st) frames
    pub wide : length (take (wide_in st) o.frames) ≡ wide_in st

  -- the first, where the section is answered "yes"
  first_yes : AllYes st (suc k) rs m frames → AllYes st 1 rs m frames
  first_yes y = record {
    whole = y.whole;
    laid = y.laid;
    near = y.near;
    few = omega arith;
    room = omega (arith, y.room, suc-mul k (wide_in st));
  }

  first_done : AllYes st (suc k) rs m frames → render_call st rs m frames ≡ render_done st rs m frames
  first_done y = sym (section_one st rs m frames) ∙ yes_done st 1 rs m frames (first_yes y) ∙ one_done st rs m frames

  -- the others, by what the first leaves
  rest_yes : AllYes st (suc k) rs m frames
      → AllYes (render_done st rs m frames).state k rs m (drop (wide_in st) (render_done st rs m frames).frames)
  unfolding render_done
  rest_yes y =
      let laid = yes_ascending st (suc k) rs m frames y in
      let params = render_params st y.whole rs m laid frames in
      let wide = ap (λ (p : Params). k * (2 * p.sample_count)) params in
      let left = ap length (done_behind st rs m frames) ∙ length-drop (wide_in st) frames in
      record {
        whole = render_whole st y.whole rs m laid frames;
        laid = y.laid;
        near = y.near;
        few = omega (arith, y.few);
        room = omega (arith, wide, left, y.room, suc-mul k (wide_in st));
      }

  done_more : AllYes st (suc k) rs m frames → FirstAndRest (render_done st rs m frames)
  unfolding section_done render_done
  done_more y =
      let o = render_done st rs m frames in
      let behind = drop (wide_in st) o.frames in
      let is = yes_done o.state k rs m behind (rest_yes y) in
      let si = sym is in
      record {
        first = refl;
        rest = ap (λ (x : RenderOutcome). x.number) is ∙ done_number k o.state rs m behind;
        whole = yes_done st (suc k) rs m frames y
            ∙ (λ i. render_left 0 (o.rounds + (si i).rounds) (si i).state (take (wide_in st) o.frames ++ (si i).frames));
        params = render_params st y.whole rs m (yes_ascending st (suc k) rs m frames y) frames;
        behind = done_behind st rs m frames;
        wide = done_front st rs m frames;
      }

  pub section_more : (section_call st (suc k) rs m frames).number ≡ 0 → FirstAndRest (render_call st rs m frames)
  section_more h =
      let y = section_yes st (suc k) rs m frames h in
      subst FirstAndRest (sym (first_done y)) (done_more y)
