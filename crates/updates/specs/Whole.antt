-- The whole update: the resources and voices first, and then a desk that can be updated. Assumes nothing.
use Rattle.std.specs.Prelude.{◌≡◌, List, ℕ, ◌+◌, ◌*◌, ◌≤◌, Float}
use Rattle.std.proofs.Common.{ap, ◌∙◌, arith}
use Rattle.std.proofs.Math.ListN.{length}
use Rattle.rows.specs.Rows.{put, length_put, part_put_after}
use Rattle.fields.specs.Fields.{section_of}
use Rattle.params.specs.declared.params.Params.{Params}
use Rattle.params.specs.declared.sections.Sections.{Sections}
use Rattle.params.specs.Sections.{sections_of}
use Rattle.params.specs.Sizes.{revision_of}
use Rattle.state.specs.State.{State, state_of, mixes_of, mix_words, resource_floats, mix_floats, mix_words_in, mix_floats_in}
use Rattle.desk_updates.specs.DeskUpdate.{resources_at}
use Rattle.desk_updates.specs.Laws.{length_resources}
use Rattle.updates.specs.Update.{Desk, VoicesInside, Updatable, desk_of, with_desk, with_resources}
use Rattle.updates.specs.Update.{voice_rows_in, put_voices, with_voices, after_voices, after_desk, changed}
use Rattle.updates.specs.VoiceRows.{voices_long}

-- ---- the two, one after the other

pub first_done : (p : Params) (s : Sections) (input : List ℕ) (st : State) {f : List Float} {v : ℕ} {d e : List ℕ} {x : State}
    → d ≡ section_of input s.resources_at s.resources_size → e ≡ section_of input s.voices_at s.voices_size → v ≡ revision_of p
    → f ≡ put st.floats (resource_floats p) (resources_at d p.voices (resource_floats p) st.floats)
    → (let between = state_of st.words st.longs f st.contexts st.history in x ≡ put_voices (voice_rows_in v e p.voices between) between)
    → x ≡ after_voices p s input st
unfolding after_voices with_voices with_resources
first_done p s input st ed ee ev ef ex =
    let resources = ef ∙ ap (λ (d : List ℕ). put st.floats (resource_floats p) (resources_at d p.voices (resource_floats p) st.floats)) ed in
    ex
    ∙ (λ i.
    let between = state_of st.words st.longs (resources i) st.contexts st.history in
    put_voices (voice_rows_in (ev i) (ee i) p.voices between) between)

-- ---- what is left for the desk's updates

module _ (p : Params) (d : List ℕ) (st : State) (h : Updatable p st) where
  resources_fit : resource_floats p + p.voices * 48 ≤ length st.floats
  resources_fit = omega (arith, h.sized.floats)

  rows_fit : resource_floats p + length (resources_at d p.voices (resource_floats p) st.floats) ≤ length st.floats
  rows_fit = rw (length_resources d p.voices (resource_floats p) st.floats resources_fit) resources_fit

  pub resources_keep : Updatable p (with_resources p d st)
  unfolding with_resources
  resources_keep =
      let r = resources_at d p.voices (resource_floats p) st.floats in
      let long = length_put st.floats (resource_floats p) r rows_fit in
      let l = length_resources d p.voices (resource_floats p) st.floats resources_fit in
      let e : mix_floats_in p (put st.floats (resource_floats p) r) ≡ mix_floats_in p st.floats =
      part_put_after st.floats (resource_floats p) r rows_fit (mixes_of p * 577) (mix_floats p) (omega (arith, l)) in
      record {
        desk = record { allowed = h.desk.allowed; words = h.desk.words; floats = long ∙ h.desk.floats; mixes = rw e h.desk.mixes };
        sized = record { words = h.sized.words; longs = h.sized.longs; floats = long ∙ h.sized.floats; contexts = h.sized.contexts; history = h.sized.history };
      }

  inside : VoicesInside p.voices st
  inside = record {
    few = h.desk.allowed.voices;
    words = omega (arith, h.sized.words);
    longs = omega (arith, h.sized.longs);
    floats = omega (arith, h.sized.floats);
    contexts = h.sized.contexts;
    history = h.sized.history;
  }

  pub voices_keep : Updatable p (with_voices p d st)
  unfolding with_voices
  voices_keep =
      let r = voice_rows_in (revision_of p) d p.voices st in
      let l = voices_long (revision_of p) d p.voices st inside in
      let fw : 10 + length r.words ≤ length st.words = rw l.words inside.words in
      let fl : 1 + length r.longs ≤ length st.longs = rw l.longs inside.longs in
      let ff : 0 + length r.floats ≤ length st.floats = rw l.floats (omega (arith, inside.floats)) in
      let ew : mix_words_in p (put st.words 10 r.words) ≡ mix_words_in p st.words =
      part_put_after st.words 10 r.words fw (mixes_of p * 5) (mix_words p) (omega (arith, l.words)) in
      let ef : mix_floats_in p (put st.floats 0 r.floats) ≡ mix_floats_in p st.floats =
      part_put_after st.floats 0 r.floats ff (mixes_of p * 577) (mix_floats p) (omega (arith, l.floats)) in
      let lw = length_put st.words 10 r.words fw in
      let ll = length_put st.longs 1 r.longs fl in
      let lf = length_put st.floats 0 r.floats ff in
      record {
        desk = record { allowed = h.desk.allowed; words = lw ∙ h.desk.words; floats = lf ∙ h.desk.floats; mixes = rw (ew, ef) h.desk.mixes };
        sized = record { words = lw ∙ h.sized.words; longs = ll ∙ h.sized.longs; floats = lf ∙ h.sized.floats; contexts = l.contexts; history = l.history };
      }

pub first_keep : (p : Params) (s : Sections) (input : List ℕ) (st : State) → Updatable p st → Updatable p (after_voices p s input st)
unfolding after_voices
first_keep p s input st h = voices_keep p _ _ (resources_keep p _ st h)

-- ---- the whole

pub update_done_lem : (p : Params) (input : List ℕ) (st : State) {s : Sections} {x : State} {k : Desk}
    → s ≡ sections_of input → x ≡ after_voices p s input st → k ≡ after_desk p s input (desk_of x) → with_desk x k ≡ changed p input st
unfolding changed
update_done_lem p input st {s} es ex ek =
    let first = ex ∙ ap (λ (s : Sections). after_voices p s input st) es in
    let after = ek ∙ (λ i. after_desk p (es i) input (desk_of (first i))) in
    λ i. with_desk (first i) (after i)
