-- What a section's call leaves, by the first question that is answered "no". Assumes nothing.
use mathlib.Core.Path.{◌≡◌, ap, sym, ◌∙◌}
use mathlib.Core.Bool.{Bool, true, false, not}
use mathlib.Core.List.{List}
use Prim.Native.Nat.{ℕ, ◌*◌, ◌≤◌, ◌<◌}
use native.Mathlib.Omega.{arith}
use borrow.Author.Tests.{le-leb, lt-leb, leb-true}
use lib.Dec.{leb}
use lib.Ieee.{Float}
use lib.ListN.{length}
use Rattle.ranges.specs.Ranges.{Range}
use Rattle.ranges.specs.Questions.{laid_of, near_of}
use Rattle.params.specs.declared.params.Params.{Params}
use Rattle.state.specs.State.{State, params_in}
use Rattle.whole.specs.Whole.{whole_of, whole_facts}
use Rattle.calls.specs.Calls.{render_left}
use Rattle.calls.specs.Sections.{wide_in, most_renders, section_done, section_call}
use Rattle.renders.specs.Sectionable.{Sectionable}
use Rattle.renderer.specs.Made.{passed, failed, ascending}

-- a test e of question 14 that is passed
pub count_few : {count : ℕ} {e : Bool} → e ≡ leb count most_renders → not e ≡ false → count ≤ most_renders
count_few {count} ee x = leb-true count most_renders (passed ee x)

-- what the product of count and samples asks
pub floats_asked : (st : State) {t : Bool} → t ≡ whole_of st → not t ≡ false → {p : Params} → p ≡ params_in st
    → {count : ℕ} {e : Bool} → e ≡ leb count most_renders → not e ≡ false → (p.sample_count ≤ 256) × (count ≤ most_renders)
floats_asked st et q ep ee x = (rw ep (whole_facts st (passed et q)).allowed.samples, count_few ee x)

-- the answers t, l and b of questions 4, 13 and 5
module _ (st : State) (count : ℕ) (rs : List Range) (m : List ℕ) (frames : List Float) {t : Bool} (et : t ≡ whole_of st) where
  pub section_four : not t ≡ true → render_left 4 0 st frames ≡ section_call st count rs m frames
  unfolding section_call
  section_four q = rw (failed et q)

  module _ (q : not t ≡ false) {l : Bool} (el : l ≡ laid_of (length m) rs) where
    pub section_thirteen : not l ≡ true → render_left 13 0 st frames ≡ section_call st count rs m frames
    unfolding section_call
    section_thirteen y = rw (passed et q, failed el y)

    module _ (y : not l ≡ false) {b : Bool} (eb : b ≡ near_of rs) where
      pub section_five : not b ≡ true → render_left 5 0 st frames ≡ section_call st count rs m frames
      unfolding section_call
      section_five w = rw (passed et q, passed el y, failed eb w)

      -- and the answer e of question 14
      module _ (w : not b ≡ false) {e : Bool} (ee : e ≡ leb count most_renders) where
        pub section_fourteen : not e ≡ true → render_left 14 0 st frames ≡ section_call st count rs m frames
        unfolding section_call
        section_fourteen x = rw (passed et q, passed el y, passed eb w, failed ee x)

        -- a count that is allowed, the parameters p that were found, and the floats n that its frames take
        module _ (x : not e ≡ false) {p : Params} (ep : p ≡ params_in st) {n : ℕ} (en : n ≡ count * (2 * p.sample_count)) where
          wide_is : n ≡ count * wide_in st
          wide_is = en ∙ ap (λ (x : Params). count * (2 * x.sample_count)) ep

          pub section_seven : length frames < n → render_left 7 0 st frames ≡ section_call st count rs m frames
          unfolding section_call
          section_seven h =
              rw (
                passed et q,
                passed el y,
                passed eb w,
                passed ee x,
                lt-leb (count * wide_in st) (length frames) (rw wide_is at h),
              )

          module _ (room : n ≤ length frames) where
            -- what the renders ask
            pub section_asked : Sectionable p count rs m st frames × (count ≤ most_renders)
            section_asked = (
              record {
                whole = whole_facts st (passed et q);
                params = sym ep;
                memory = ascending (length m) rs el y eb w;
                room = omega (arith, en, room);
              },
              count_few ee x,
            )

            pub section_done_lem : {rounds : ℕ} {u : State} {f : List Float} → render_left 0 rounds u f ≡ section_done count st rs m frames
                → render_left 0 rounds u f ≡ section_call st count rs m frames
            unfolding section_call
            section_done_lem d =
                rw (
                  passed et q,
                  passed el y,
                  passed eb w,
                  passed ee x,
                  le-leb (count * wide_in st) (length frames) (rw wide_is at room),
                )
                d
