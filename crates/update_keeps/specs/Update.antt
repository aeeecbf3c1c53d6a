-- An update leaves a whole state whole. Assumes nothing.
use Rattle.std.specs.Prelude.{◌≡◌, refl, List, [], ◌∷◌, ℕ}
use Rattle.params.specs.declared.params.Params.{Params}
use Rattle.params.specs.declared.sections.Sections.{Sections}
use Rattle.params.specs.Sections.{sections_of}
use Rattle.state.specs.State.{State, Sized, params_in}
use Rattle.whole.specs.Whole.{Whole}
use Rattle.updates.specs.Update.{Desk, Updatable, desk_of, after_voices, after_desk, changed, updated}
use Rattle.updates.specs.Whole.{resources_keep, first_keep}
use Rattle.updates.specs.FromWhole.{whole_updatable}
use Rattle.whole_rows.specs.Rows.{RowsWhole, rows_of, rows_whole}
use Rattle.update_keeps.specs.FirstSteps.{resources_rows, voices_rows}
use Rattle.update_keeps.specs.DeskSteps.{lists_rows, mixes_rows, sinks_rows}

-- ---- the rows after the resources and voices, and then after the desk

first_rows : (p : Params) (s : Sections) (input : List ℕ) (st : State) → Updatable p st → RowsWhole p st.words st.floats
    → RowsWhole p (after_voices p s input st).words (after_voices p s input st).floats
unfolding after_voices
first_rows p s input st u h = voices_rows p _ _ (resources_rows p _ st h) (resources_keep p _ st u).sized

desk_rows : (p : Params) (s : Sections) (input : List ℕ) (k : Desk) → RowsWhole p k.words k.floats
    → RowsWhole p (after_desk p s input k).words (after_desk p s input k).floats
unfolding after_desk
desk_rows p s input k h = sinks_rows p _ _ (mixes_rows p _ _ (lists_rows p _ k h))

-- ---- the whole update

module _ (st : State) (w : Whole st) (input : List ℕ) where
  abbrev after : State
  after = changed (params_in st) input st

  after_rows : RowsWhole (params_in st) after.words after.floats
  unfolding changed
  after_rows =
      let p = params_in st in
      let s = sections_of input in
      desk_rows p s input (desk_of (after_voices p s input st)) (first_rows p s input st (whole_updatable st w) (rows_of st w))

  after_sized : Sized (params_in st) after
  unfolding changed
  after_sized =
      let s = (first_keep (params_in st) (sections_of input) input st (whole_updatable st w)).sized in
      record {
        words = after_rows.words_long;
        longs = s.longs;
        floats = after_rows.floats_long;
        contexts = s.contexts;
        history = s.history;
      }

-- the parameters stay
pub update_params : (st : State) → Whole st → (input : List ℕ) → params_in (updated (params_in st) input st) ≡ params_in st
unfolding updated
update_params st w [] = refl
update_params st w (b ∷ bs) = (after_rows st w (b ∷ bs)).params

pub update_whole : (st : State) → Whole st → (input : List ℕ) → Whole (updated (params_in st) input st)
unfolding updated
update_whole st w [] = w
update_whole st w (b ∷ bs) = rows_whole (params_in st) (after st w (b ∷ bs)) (after_rows st w (b ∷ bs)) (after_sized st w (b ∷ bs))
