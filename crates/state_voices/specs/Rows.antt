-- Rows of one voice in a state of the right lengths: they are there, and apart from every other voice's. Assumes nothing.
use Rattle.std.specs.Prelude.{◌≡◌, refl, ◌⊎◌, List, ℕ, zero, suc, ◌+◌, ◌≤◌, ◌<◌, length}
use Rattle.std.proofs.Common.{ap, inl, inr, ⊎_elim, arith}
use Rattle.rows.specs.Rows.{part, put, length_put, part_put_before, part_put_after}
use Rattle.params.specs.declared.params.Params.{Params}
use Rattle.params.specs.Sizes.{Allowed}
use Rattle.state.specs.State.{State, Sized}
use Rattle.state_voices.specs.StateVoices.{PositionInside, SoundInside}

module _ {p : Params} {st : State} {k : ℕ} (a : Allowed p) (z : Sized p st) (h : k < p.voices) where
  pub position_inside : PositionInside k st.words st.longs st.floats
  position_inside = record {
    few = omega (arith, a.voices);
    words = omega (arith, z.words);
    longs = omega (arith, z.longs);
    floats = omega (arith, z.floats);
  }

  pub sound_inside : SoundInside k st.contexts st.history
  sound_inside = record { few = omega (arith, a.voices); contexts = omega (arith, z.contexts); history = omega (arith, z.history) }

-- ---- a row of w elements that is put at `at`

module _ {ℓ} {A : Type ℓ} (s : List A) (at w : ℕ) (r : List A) (wide : length r ≡ w) (fits : at + w ≤ length s) where
  pub put_length : length (put s at r) ≡ length s
  put_length = length_put s at r (rw wide fits)

  -- leaves a row that is apart from it
  pub put_apart : (u b : ℕ) → (b + u ≤ at) ⊎ (at + w ≤ b) → part u b (put s at r) ≡ part u b s
  put_apart u b =
      ⊎_elim (λ (l : b + u ≤ at). part_put_before s at r (rw wide fits) u b l)
      (λ (g : at + w ≤ b). part_put_after s at r (rw wide fits) u b (rw wide g))

-- two numbers that are not the same
pub before_or_after : (j k : ℕ) → (j ≡ k → ⊥) → (j < k) ⊎ (k < j)
before_or_after zero zero h = absurd (h refl)
before_or_after zero (suc k) h = inl (omega arith)
before_or_after (suc j) zero h = inr (omega arith)
before_or_after (suc j) (suc k) h =
    ⊎_elim (λ (l : j < k). inl (omega arith)) (λ (g : k < j). inr (omega arith))
    (before_or_after j k (λ (e : j ≡ k). h (ap suc e)))
