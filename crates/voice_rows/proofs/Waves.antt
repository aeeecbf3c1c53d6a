-- A first part and then the four wave buffers', stored by a loop. Assumes nothing.
use Rattle.std.specs.Prelude.{◌≡◌, List, ◌++◌, ℕ, ◌+◌, ◌*◌, ◌≤◌, length}
use Rattle.std.proofs.Common.{ap, ◌∙◌, arith, append_assoc}
use Rattle.rows.specs.Rows.{put, put_more}
use Rattle.rows.specs.Tables.{joined, length_joined}
use Rattle.voice.specs.declared.wave.WaveBuffer.{WaveBuffer}
use Rattle.voice.specs.declared.Voice.{Voice}
use Rattle.voice_rows.specs.VoiceRow.{wave_at, with_waves}

module _ (h : List ℕ) (f : WaveBuffer → List ℕ) (v : Voice) where
  waves_are : h ++ joined 4 (λ k. f (wave_at v k)) ≡ with_waves h f v
  unfolding joined
  waves_are = simp append_assoc

  pub waves_joined : (n w : ℕ) → length h ≡ n → ((b : WaveBuffer) → length (f b) ≡ w) → (s : List ℕ) (at : ℕ) {t u : List ℕ}
      → at + n + 4 * w ≤ length s → t ≡ put s at h → u ≡ put t (at + n) (joined 4 (λ k. f (wave_at v k))) → u ≡ put s at (with_waves h f v)
  waves_joined n w lh lf s at fits e₀ e₁ =
      let waves : List ℕ = joined 4 (λ k. f (wave_at v k)) in
      let room : at + n + length waves ≤ length s = omega (arith, length_joined w 4 (λ k. f (wave_at v k)) (λ k. lf _)) in
      put_more s at n h waves lh room e₀ e₁ ∙ ap (put s at) waves_are
