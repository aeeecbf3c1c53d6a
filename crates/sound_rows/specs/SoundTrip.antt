-- A sound that is stored and loaded is the same, and so is its row that is loaded and stored. Assumes nothing.
use Rattle.std.specs.Prelude.{◌≡◌, List, [], ◌∷◌, ◌++◌, ℕ, ◌<◌, length, get_or, Float}
use Rattle.std.proofs.Common.{◌∙◌, take_at, SFits, to_z-of_z}
use Rattle.std.specs.Int.{w16}
use mir.ValLaws.{of_z-to_z}
use Rattle.rows.specs.Rows.{part}
use Rattle.voice.specs.declared.sound.Sound.{Sound}
use Rattle.sound_rows.specs.Spelled.{spelled, part_whole}
use Rattle.sound_rows.specs.SoundRow.{sound_from, sound_of, words_of_context, contexts_of, history_of}

-- a sound whose numbers fit 16 bits and whose history has its length
pub record ShapedSound (s : Sound) : Type 0 where
  pub samples : length s.history.samples ≡ 18
  pub first : SFits w16 s.adpcm.history0
  pub second : SFits w16 s.adpcm.history1

-- whatever stands after the rows
pub sound_again : (s : Sound) → ShapedSound s → (x : List ℕ) (y : List Float) → sound_of (contexts_of s ++ x) (history_of s ++ y) ≡ s
unfolding sound_of contexts_of words_of_context history_of part
sound_again s h x y =
    λ i. sound_from s.adpcm.pred_scale (to_z-of_z h.first i) (to_z-of_z h.second i) (take_at s.history.samples y 18 h.samples i)

pub contexts_again : (c : List ℕ) (f : List Float) → length c ≡ 3 → get_or c 1 0 < 65536 → get_or c 2 0 < 65536 → contexts_of (sound_of c f) ≡ c
unfolding sound_of contexts_of words_of_context
contexts_again c f h b₁ b₂ =
    (λ i. get_or c 0 0 ∷ of_z-to_z w16 (get_or c 1 0) (record { fits = b₁ }) i ∷ of_z-to_z w16 (get_or c 2 0) (record { fits = b₂ }) i ∷ []) ∙ spelled 3 0 c h

pub history_again : (c : List ℕ) (f : List Float) → length f ≡ 18 → history_of (sound_of c f) ≡ f
unfolding sound_of history_of
history_again c f h = part_whole 18 f h
