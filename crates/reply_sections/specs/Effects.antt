-- The reply's effects: for each a state and zeros. Assumes nothing.
use Rattle.std.specs.Prelude.{◌≡◌, refl, cond, List, [], ◌∷◌, ◌++◌, ℕ, zero, suc, ◌+◌, ◌-◌, ◌*◌, ◌/◌, ◌^◌, ◌≤◌, ◌<◌, eqb, length}
use Rattle.std.proofs.Common.{ap, ◌∙◌, mul_comm, mul-le-mul_right, arith, eq-eqb, ne_eqb}
use Rattle.rows.specs.Tables.{joined, length_joined}
use Rattle.fields.specs.Fields.{field_at}
use Rattle.reply_sections.specs.Bytes.{zeros, length_zeros}

-- 3 where the byte there is not 0, else 4, also past the end
unfoldable pub effect_state : List ℕ → ℕ → ℕ
effect_state section at = cond (eqb (field_at 1 section at) 0) 4 3

-- a state and zeros, w bytes together
unfoldable pub effect_row : ℕ → ℕ → List ℕ
effect_row zero state = []
effect_row (suc w) state = state ∷ zeros w

-- effect i of those that have a share of the section, and of the reply
unfoldable pub effect_at : ℕ → ℕ → List ℕ → ℕ → List ℕ
effect_at stride_in stride_out section i = effect_row stride_out (effect_state section (i * stride_in + 2))

-- n effects in so many bytes
unfoldable pub effect_rows : ℕ → ℕ → List ℕ → List ℕ
effect_rows n bytes section = joined n (effect_at (length section / n) (bytes / n) section)

-- ---- laws

module _ (section : List ℕ) (at : ℕ) where
  pub effect_on : (field_at 1 section at ≡ 0 → ⊥) → effect_state section at ≡ 3
  unfolding effect_state
  effect_on h = simp (ne_eqb (field_at 1 section at) 0 h)

  pub effect_off : field_at 1 section at ≡ 0 → effect_state section at ≡ 4
  unfolding effect_state
  effect_off h = simp (eq-eqb (field_at 1 section at) 0 h)

pub effect_none : (w state : ℕ) → w ≡ 0 → effect_row w state ≡ []
unfolding effect_row
effect_none zero state h = refl
effect_none (suc w) state h = absurd (omega arith)

pub effect_some : (w state : ℕ) → 0 < w → effect_row w state ≡ (state ∷ []) ++ zeros (w - 1)
unfolding effect_row
effect_some zero state h = absurd (omega arith)
effect_some (suc w) state h = let e : suc w - 1 ≡ w = omega arith in rw e

pub effects_nil : (n bytes : ℕ) (section : List ℕ) → n ≡ 0 → effect_rows n bytes section ≡ []
unfolding effect_rows joined
effects_nil zero bytes section h = refl
effects_nil (suc n) bytes section h = absurd (omega arith)

pub length_effect : (w state : ℕ) → length (effect_row w state) ≡ w
unfolding effect_row
length_effect zero state = refl
length_effect (suc w) state = ap suc (length_zeros w)

pub length_effect_at : (stride_in stride_out : ℕ) (section : List ℕ) (i : ℕ) → length (effect_at stride_in stride_out section i) ≡ stride_out
unfolding effect_at
length_effect_at stride_in stride_out section i = length_effect _ _

pub length_effects : (n bytes : ℕ) (section : List ℕ) → length (effect_rows n bytes section) ≡ n * (bytes / n)
unfolding effect_rows
length_effects n bytes section = length_joined (bytes / n) n _ (length_effect_at (length section / n) (bytes / n) section)

pub length_effects_whole : (n bytes : ℕ) (section : List ℕ) → bytes / n * n ≡ bytes → length (effect_rows n bytes section) ≡ bytes
length_effects_whole n bytes section h = length_effects n bytes section ∙ mul_comm n (bytes / n) ∙ h

-- the place of one of 64 shares
pub share_small : (i n w : ℕ) → i < n → n ≤ 64 → w < 2 ^ 32 → i * w < 2 ^ 38
share_small i n w h k l =
    let m : i ≤ 64 = omega arith in
    omega (arith, mul-le-mul_right w m)
