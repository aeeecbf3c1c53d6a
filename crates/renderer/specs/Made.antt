-- What a call leaves, by the first question that is answered "no". Assumes nothing.
use Rattle.std.specs.Prelude.{◌≡◌, refl, Bool, true, false, cond, not, List, ℕ, ◌*◌, ◌≤◌, ◌<◌, Float, length, Result, Ok, Err}
use Rattle.std.proofs.Math.Path.{ap}
use Rattle.std.proofs.Common.{sym, ◌∙◌}
use borrow.Author.Tests.{le-leb, lt-leb, not-true, not-false}
use Rattle.rows.specs.Rows.{put}
use Rattle.ranges.specs.Ranges.{Range}
use Rattle.ranges.specs.Ascending.{Ascending}
use Rattle.ranges.specs.Questions.{laid_of, near_of}
use Rattle.ranges.proofs.Questions.{laid_facts}
use Rattle.params.specs.declared.params.Params.{Params}
use Rattle.params.specs.Sizes.{Allowed, reply_length}
use Rattle.state.specs.declared.Places.{Places}
use Rattle.state.specs.State.{State, Sized, places_of, params_in}
use Rattle.whole.specs.Counts.{samples_allowed, counts_allowed, allowed_facts}
use Rattle.whole.specs.Whole.{sized_of, whole_of, sized_facts}
use Rattle.opened.specs.Opened.{opened}
use Rattle.updates.specs.Update.{updated, update_reply}
use Rattle.render.specs.Render.{rendered, rendered_by}
use Rattle.desk_order.specs.declared.listed.MixOrder.{MixOrder}
use Rattle.desk_order.specs.Listed.{listed_of}
use Rattle.desk_render.specs.DeskRender.{order_by}
use Rattle.renderer.specs.declared.answers.LengthsError.{LengthsError}
use Rattle.renderer.specs.declared.answers.LengthsError.TheVariants.{Samples, Counts}
use Rattle.renderer.specs.declared.answers.OpenError.{OpenError}
use Rattle.renderer.specs.Answers.{lengths_refusal, first_no, allowed_of, lengths_seen, reply_length_seen, open_refusal, open_refusal_of, open_seen}
use Rattle.calls.specs.Calls.{lengths_refused, lengths_given, lengths_call, length_left, reply_length_call, open_left, open_call, update_left, update_done, update_call, render_left, render_done, render_call, order_given, order_refused, order_call}

-- a test t that its function answered by r
pub passed : {t r : Bool} → r ≡ t → not r ≡ false → t ≡ true
passed {r = r} e q = sym e ∙ not-false r q

pub failed : {t r : Bool} → r ≡ t → not r ≡ true → t ≡ false
failed {r = r} e q = sym e ∙ not-true r q

-- ---- lengths, reply_length and open: the answer r of questions 1 and 2, and z of question 3

-- of outcomes with a number, that of a refusal: `done` is what is left where all is allowed
refused_by : {A : Type 0} (left : ℕ → A) (done : A) (s c : Bool) {e : LengthsError} → first_no s c ≡ Err e
    → left (lengths_refusal e) ≡ cond s (cond c done (left 2)) (left 1)
refused_by left done true true q = absurd (cc)
refused_by left done true false {e} q =
    let same : Counts ≡ e = cc in
    ap (λ (x : LengthsError). left (lengths_refusal x)) (sym same)
refused_by left done false c {e} q =
    let same : Samples ≡ e = cc in
    ap (λ (x : LengthsError). left (lengths_refusal x)) (sym same)

open_refused : (e : LengthsError) → open_refusal (open_refusal_of e) ≡ lengths_refusal e
open_refused Samples = refl
open_refused Counts = refl

allowed_by : (s c : Bool) {u : Unit {0}} → first_no s c ≡ Ok u → (s ≡ true) × (c ≡ true)
allowed_by true true q = (refl, refl)
allowed_by true false q = absurd (cc)
allowed_by false c q = absurd (cc)

module _ (p : Params) {r : Result (Unit {0}) LengthsError} (er : r ≡ allowed_of p) where
  module _ {e : LengthsError} (q : r ≡ Err e) where
    not_allowed : first_no (samples_allowed p) (counts_allowed p) ≡ Err e
    unfolding allowed_of
    not_allowed = sym er ∙ q

    pub lengths_not : lengths_seen (Err e) ≡ lengths_call p
    unfolding lengths_call
    lengths_not = refused_by lengths_refused (lengths_given (places_of p)) _ _ not_allowed

    pub length_not : (expected : ℕ) → reply_length_seen (Err e) ≡ reply_length_call p expected
    unfolding reply_length_call
    length_not expected = refused_by (λ n. length_left n 0) (length_left 0 (reply_length p expected)) _ _ not_allowed

    pub open_not : (st : State) {o : OpenError} → o ≡ open_refusal_of e → open_seen (Err o) st ≡ open_call p st
    unfolding open_call
    open_not st eo =
        ap (λ (n : ℕ). open_left n st) (ap open_refusal eo ∙ open_refused e)
        ∙ refused_by (λ n. open_left n st) (cond (sized_of (places_of p) st) (open_left 0 (opened p)) (open_left 3 st)) _ _ not_allowed

  module _ {u : Unit {0}} (q : r ≡ Ok u) where
    both : (samples_allowed p ≡ true) × (counts_allowed p ≡ true)
    unfolding allowed_of
    both = allowed_by (samples_allowed p) (counts_allowed p) (sym er ∙ q)

    pub allowed : Allowed p
    allowed = allowed_facts p both.0 both.1

    pub lengths_given_lem : {at : Places} → at ≡ places_of p → lengths_given at ≡ lengths_call p
    unfolding lengths_call
    lengths_given_lem e = rw (both.0, both.1) (ap lengths_given e)

    pub length_given : (expected : ℕ) {size : ℕ} → size ≡ reply_length p expected → length_left 0 size ≡ reply_length_call p expected
    unfolding reply_length_call
    length_given expected e = rw (both.0, both.1) (ap (length_left 0) e)

    module _ (st : State) {at : Places} (ea : at ≡ places_of p) {z : Bool} (ez : z ≡ sized_of at st) where
      sized_is : z ≡ sized_of (places_of p) st
      sized_is = ez ∙ ap (λ (x : Places). sized_of x st) ea

      pub open_three : not z ≡ true → open_left 3 st ≡ open_call p st
      unfolding open_call
      open_three y = rw (both.0, both.1, failed sized_is y)

      pub sized : not z ≡ false → Sized p st
      sized y = sized_facts p st (passed sized_is y)

      pub open_done : not z ≡ false → {u : State} → u ≡ opened p → open_left 0 u ≡ open_call p st
      unfolding open_call
      open_done y e = rw (both.0, both.1, passed sized_is y) (ap (open_left 0) e)

-- ---- update: the answer t of question 4, and the parameters p that were found

module _ (st : State) (expected : ℕ) (input reply : List ℕ) {t : Bool} (et : t ≡ whole_of st) where
  pub update_four : not t ≡ true → update_left 4 0 st reply ≡ update_call st expected input reply
  unfolding update_call
  update_four q = rw (failed et q)

  module _ (q : not t ≡ false) {p : Params} (ep : p ≡ params_in st) {size : ℕ} (es : size ≡ reply_length p expected) where
    size_is : size ≡ reply_length (params_in st) expected
    size_is = es ∙ ap (λ (x : Params). reply_length x expected) ep

    pub update_six : length reply < size → update_left 6 0 st reply ≡ update_call st expected input reply
    unfolding update_call
    update_six h = rw (passed et q, lt-leb (reply_length (params_in st) expected) (length reply) (rw size_is at h))

    pub update_done_lem : size ≤ length reply → {u : State} {y : List ℕ} → u ≡ updated p input st → y ≡ put reply 0 (update_reply p expected input u)
        → update_left 0 size u y ≡ update_call st expected input reply
    unfolding update_call update_done
    update_done_lem h {u} eu ey =
        let state_is = eu ∙ ap (λ (x : Params). updated x input st) ep in
        let reply_is = ey ∙ (λ i. put reply 0 (update_reply (ep i) expected input (state_is i))) in
        rw (passed et q, le-leb (reply_length (params_in st) expected) (length reply) (rw size_is at h))
        (λ i. update_left 0 (size_is i) (state_is i) (reply_is i))

-- ---- render: the answers t, l and n of questions 4, 13 and 5

-- two that are "yes" say that the ranges ascend over n bytes
pub ascending : (n : ℕ) (rs : List Range) {l b : Bool} → l ≡ laid_of n rs → not l ≡ false → b ≡ near_of rs → not b ≡ false → Ascending n 0 rs
ascending n rs el y eb w = laid_facts n rs (passed el y) (passed eb w)

module _ (st : State) (rs : List Range) (m : List ℕ) (frames : List Float) {t : Bool} (et : t ≡ whole_of st) where
  pub render_four : not t ≡ true → render_left 4 0 st frames ≡ render_call st rs m frames
  unfolding render_call
  render_four q = rw (failed et q)

  module _ (q : not t ≡ false) {l : Bool} (el : l ≡ laid_of (length m) rs) where
    pub render_thirteen : not l ≡ true → render_left 13 0 st frames ≡ render_call st rs m frames
    unfolding render_call
    render_thirteen y = rw (passed et q, failed el y)

    module _ (y : not l ≡ false) {n : Bool} (en : n ≡ near_of rs) where
      pub render_five : not n ≡ true → render_left 5 0 st frames ≡ render_call st rs m frames
      unfolding render_call
      render_five w = rw (passed et q, passed el y, failed en w)

      module _ (w : not n ≡ false) {p : Params} (ep : p ≡ params_in st) where
        count_is : 2 * p.sample_count ≡ 2 * (params_in st).sample_count
        count_is = ap (λ (x : Params). 2 * x.sample_count) ep

        pub render_seven : length frames < 2 * p.sample_count → render_left 7 0 st frames ≡ render_call st rs m frames
        unfolding render_call
        render_seven h =
            rw (passed et q, passed el y, passed en w, lt-leb (2 * (params_in st).sample_count) (length frames) (rw count_is at h))

        pub render_done_lem : 2 * p.sample_count ≤ length frames → {rounds : ℕ} {u : State} {f : List Float}
            → rendered u rounds f ≡ rendered_by p rs m st frames → render_left 0 rounds u f ≡ render_call st rs m frames
        unfolding render_call render_done
        render_done_lem h e =
            let x = e ∙ ap (λ (p : Params). rendered_by p rs m st frames) ep in
            rw (passed et q, passed el y, passed en w, le-leb (2 * (params_in st).sample_count) (length frames) (rw count_is at h))
            (λ i. render_left 0 (x i).rounds (x i).state (x i).frames)

-- ---- mix_order: the answer t of question 4

module _ (st : State) {t : Bool} (et : t ≡ whole_of st) where
  pub order_four : not t ≡ true → order_refused 4 ≡ order_call st
  unfolding order_call
  order_four q = rw (failed et q)

  pub order_done : not t ≡ false → {p : Params} → p ≡ params_in st → {r : MixOrder} → r ≡ listed_of (order_by p st.words) → order_given r ≡ order_call st
  unfolding order_call
  order_done q ep e = rw (passed et q) (ap order_given (e ∙ ap (λ (x : Params). listed_of (order_by x st.words)) ep))
