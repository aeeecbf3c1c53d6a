-- A voice's sound row: 3 contexts (pred_scale, and the 16 bits of history0 and history1), 18 floats. Assumes nothing.
use Rattle.std.specs.Prelude.{◌≡◌, refl, List, [], ◌∷◌, ℕ, ℤ, length, get_or, Float}
use Rattle.std.proofs.Common.{to_z, of_z}
use Rattle.std.specs.Int.{w16}
use Rattle.rows.specs.Rows.{part}
use Rattle.adpcm.specs.declared.context.AdpcmContext.{AdpcmContext}
use Rattle.voice.specs.declared.sound.Sound.{Sound}

abbrev pub sound_from : ℕ → ℤ → ℤ → List Float → Sound
sound_from p x y h = record { adpcm = record { pred_scale = p; history0 = x; history1 = y }; history = record { samples = h } }

unfoldable pub sound_of : List ℕ → List Float → Sound
sound_of c h = sound_from (get_or c 0 0) (to_z w16 (get_or c 1 0)) (to_z w16 (get_or c 2 0)) (part 18 0 h)

unfoldable pub words_of_context : AdpcmContext → List ℕ
words_of_context c = c.pred_scale ∷ of_z w16 c.history0 ∷ of_z w16 c.history1 ∷ []

unfoldable pub contexts_of : Sound → List ℕ
contexts_of s = words_of_context s.adpcm

unfoldable pub history_of : Sound → List Float
history_of s = s.history.samples

pub length_contexts : (s : Sound) → length (contexts_of s) ≡ 3
unfolding contexts_of words_of_context
length_contexts s = refl
