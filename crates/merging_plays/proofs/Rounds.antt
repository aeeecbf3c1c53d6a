-- The rounds that an item answers are those that it tells of each voice, in sum. Assumes nothing.
use mathlib.Core.Path.{◌≡◌, refl, ap, sym, subst, ◌∙◌}
use mathlib.Core.Bool.{Bool, true, false, cond}
use mathlib.Core.List.{List}
use Prim.Native.Nat.{ℕ, zero, suc, ◌+◌, ◌*◌, ◌≤◌, ◌<◌}
use native.Mathlib.Omega.{arith}
use borrow.Author.Tests.{eqb-true}
use lib.Dec.{eqb}
use lib.Ieee.{Float}
use lib.ListN.{length, drop, replicate}
use Rattle.floats.specs.Defs.{zero32}
use Rattle.rows.specs.Folds.{up_to}
use Rattle.ranges.specs.Ranges.{Range}
use Rattle.ranges.specs.Ascending.{Ascending}
use Rattle.params.specs.declared.params.Params.{Params}
use Rattle.state.specs.State.{State, params_in}
use Rattle.row_tests.specs.Tests.{sum}
use Rattle.whole.specs.Whole.{Whole}
use Rattle.turn.specs.Render.{Render}
use Rattle.state_voices.specs.StateVoices.{voice_in}
use Rattle.voice_turn.specs.Played.{Studio, studio}
use Rattle.voice_render.specs.Next.{next_voice, voice_rounds}
use Rattle.voice_render.specs.Laws.{render_step_lem}
use Rattle.render_turns.specs.Turns.{voices_rendered, Playing}
use Rattle.render_turns.proofs.After.{playing_after}
use Rattle.render.specs.Render.{elapsed, render_of, rendered_on, rendered_by}
use Rattle.render.specs.Laws.{elapsed_playing, voice_same}
use Rattle.render.specs.FromWhole.{whole_playing}
use Rattle.render_keeps.specs.Keeps.{render_params, render_whole}
use Rattle.render_alike.specs.Voices.{voice_left, rendered_voice}
use Rattle.calls.specs.Calls.{RenderOutcome, render_done}
use Rattle.calls.specs.Sections.{wide_in, section_done, section_call}
use Rattle.renders.proofs.Sections.{section_yes, yes_done, yes_ascending, section_refused, section_one}
use Rattle.secrecy.specs.Sessions.{update, render}
use Rattle.secrecy_items.specs.Items.{Item, single, section, said_item}
use Rattle.merging_plays.specs.Told.{rounds_over, told_item}

-- ---- sums

sum_same : (n : ℕ) (f g : ℕ → ℕ) → ((j : ℕ) → j < n → f j ≡ g j) → sum n f ≡ sum n g
unfolding sum
sum_same zero f g e = refl
sum_same (suc n) f g e =
    let before = sum_same n f g (λ j l. e j (omega arith)) in
    let last = e n (omega arith) in
    λ i. before i + last i

sum_both : (n : ℕ) (f g : ℕ → ℕ) → sum n (λ j. f j + g j) ≡ sum n f + sum n g
unfolding sum
sum_both zero f g = refl
sum_both (suc n) f g = omega (arith, sum_both n f g)

sum_zero : (n : ℕ) → sum n (λ _. 0) ≡ 0
unfolding sum
sum_zero zero = refl
sum_zero (suc n) = omega (arith, sum_zero n)

-- ---- one render

voices_sum : (p : Params) (r : Render) (m : List ℕ) (x : Studio) → Playing p r m 0 x.state → (k : ℕ) → k ≤ p.voices
    → (voices_rendered p r m k x).rounds ≡ x.rounds + sum k (λ j. voice_rounds r (voice_in j x.state))
unfolding voices_rendered up_to sum
voices_sum p r m x h zero l = omega arith
voices_sum p r m x h (suc k) l =
    let y = voices_rendered p r m k x in
    let g = playing_after p r m x h k (omega arith) in
    let s = render_step_lem g.desk l (g.voices k (omega arith) l) y.buffers y.rounds in
    let before = voices_sum p r m x h k (omega arith) in
    let own = ap (voice_rounds r) (voice_left p r m x h k k (omega arith) l) in
    omega (arith, s.total, before, own)

module _ (st : State) (w : Whole st) (rs : List Range) (m : List ℕ) (laid : Ascending (length m) 0 rs) where
  rendered_sum : (frames : List Float)
      → (rendered_by (params_in st) rs m st frames).rounds
      ≡ sum (params_in st).voices (λ j. voice_rounds (render_of (params_in st) rs) (voice_in j st))
  unfolding rendered_by rendered_on
  rendered_sum frames =
      let p = params_in st in
      let r = render_of p rs in
      let g = whole_playing st w rs m laid in
      let x = studio (elapsed st) (replicate (p.mix_buffers * p.sample_count) zero32) 0 in
      let all = voices_sum p r m x (elapsed_playing g) p.voices (omega arith) in
      let same = sum_same p.voices _ (λ j. voice_rounds r (voice_in j st)) (λ j l. ap (voice_rounds r) (voice_same g j)) in
      omega (arith, all, same)

-- ---- a section that is done

section_sum : (rs : List Range) (m : List ℕ) → Ascending (length m) 0 rs → (count : ℕ) (st : State) → Whole st → (frames : List Float)
    → (section_done count st rs m frames).rounds
    ≡ sum (params_in st).voices (λ j. rounds_over count (render_of (params_in st) rs) (voice_in j st))
unfolding section_done render_done rounds_over
section_sum rs m laid zero st w frames = sym (sum_zero (params_in st).voices)
section_sum rs m laid (suc n) st w frames =
    let p = params_in st in
    let r = render_of p rs in
    let u = rendered_by p rs m st frames in
    let left = drop (wide_in st) u.frames in
    let first = rendered_sum st w rs m laid frames in
    let rest = section_sum rs m laid n u.state (render_whole st w rs m laid frames) left in
    let params = render_params st w rs m laid frames in
    let there : sum (params_in u.state).voices (λ j. rounds_over n (render_of (params_in u.state) rs) (voice_in j u.state))
    ≡ sum p.voices (λ j. rounds_over n r (voice_in j u.state)) =
    λ i. sum (params i).voices (λ j. rounds_over n (render_of (params i) rs) (voice_in j u.state)) in
    let next = sum_same p.voices _ (λ j. rounds_over n r (next_voice r (voice_in j st)))
    (λ j l. ap (rounds_over n r) (rendered_voice st w rs m laid frames j l)) in
    (λ i. first i + (rest ∙ there ∙ next) i) ∙ sym (sum_both p.voices (λ j. voice_rounds r (voice_in j st)) _)

-- ---- an item

-- a section or a render, by whether it is refused, with f the rounds of each voice
by_number : (n : ℕ) (f : ℕ → ℕ) (o : RenderOutcome) (t : Bool) → eqb o.number 0 ≡ t → (t ≡ true → o.rounds ≡ sum n f)
    → (t ≡ false → o.rounds ≡ 0) → o.rounds ≡ sum n (λ j. cond (eqb o.number 0) (f j) 0)
by_number n f o true e done refused = done refl ∙ (λ i. sum n (λ j. cond (sym e i) (f j) 0))
by_number n f o false e done refused = refused refl ∙ sym (sum_zero n) ∙ (λ i. sum n (λ j. cond (sym e i) (f j) 0))

module _ (st : State) (w : Whole st) where
  sections_sum : (count : ℕ) (rs : List Range) (m : List ℕ) (frames : List Float)
      → (said_item st (section count rs m frames)).rounds ≡ sum (params_in st).voices (λ k. (told_item k st (section count rs m frames)).rounds)
  sections_sum count rs m frames =
      let o = section_call st count rs m frames in
      by_number (params_in st).voices (λ k. rounds_over count (render_of (params_in st) rs) (voice_in k st)) o (eqb o.number 0) refl
      (λ e.
      let y = section_yes st count rs m frames (eqb-true _ _ e) in
      ap (λ (x : RenderOutcome). x.rounds) (yes_done st count rs m frames y)
      ∙ section_sum rs m (yes_ascending st count rs m frames y) count st w frames)
      (λ e. ap (λ (x : RenderOutcome). x.rounds) (section_refused st count rs m frames e))

  one_sum : (rs : List Range) (m : List ℕ) (frames : List Float)
      → (section_call st 1 rs m frames).rounds
      ≡ sum (params_in st).voices (λ k. cond (eqb (section_call st 1 rs m frames).number 0)
      (voice_rounds (render_of (params_in st) rs) (voice_in k st)) 0)
  unfolding rounds_over
  one_sum rs m frames =
      let none : (n : ℕ) → n + 0 ≡ n = λ n. omega arith in
      sections_sum 1 rs m frames
      ∙ (λ i. sum (params_in st).voices (λ k. cond (eqb (section_call st 1 rs m frames).number 0)
      (none (voice_rounds (render_of (params_in st) rs) (voice_in k st)) i) 0))

  pub rounds_told : (x : Item) → (said_item st x).rounds ≡ sum (params_in st).voices (λ k. (told_item k st x).rounds)
  rounds_told (single (update expected input reply)) = sym (sum_zero (params_in st).voices)
  rounds_told (single (render rs m frames)) =
      subst (λ (o : RenderOutcome). o.rounds ≡ sum (params_in st).voices (λ k. cond (eqb o.number 0)
      (voice_rounds (render_of (params_in st) rs) (voice_in k st)) 0)) (section_one st rs m frames) (one_sum rs m frames)
  rounds_told (section count rs m frames) = sections_sum count rs m frames
