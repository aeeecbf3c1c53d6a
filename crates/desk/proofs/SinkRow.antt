-- A sink's rows, as the code stores them, are what the definition puts. Assumes nothing.
use mathlib.Core.Path.{◌≡◌, sym, ◌∙◌}
use mathlib.Core.Bool.{true, false}
use mathlib.Core.List.{List, [], ◌∷◌}
use Prim.Native.Nat.{ℕ, ◌+◌, ◌*◌, ◌≤◌, min}
use borrow.Author.Tests.{eq-eqb, ne_eqb}
use lib.ListN.{length}
use lib.Ieee.{Float}
use Rattle.rows.specs.Rows.{put, put_part}
use Rattle.rows.specs.Tables.{table}
use Rattle.fields.specs.Fields.{field_at, flag_at}
use Rattle.desk.specs.Parts.{put_front}
use Rattle.desk.specs.Records.{float_at, word_of}
use Rattle.desk.specs.Sinks.{sink_rows, is_device, device_row, sink_words_if, sink_floats_if, sink_put}

module _ (p : List ℕ) (k : ℕ) (w : List ℕ) {w' : List ℕ} (f : List Float) {f' : List Float} (wide : k * 10 + 10 ≤ length w) (long : k * 4 + 4 ≤ length f) where
  pub device : is_device p ≡ true → w' ≡ put w (k * 10) (device_row p) → f' ≡ put f (k * 4) (table 4 (float_at p 0x12c))
      → sink_rows w' f' ≡ sink_put p k (sink_rows w f)
  unfolding sink_put sink_words_if sink_floats_if
  device e ew ef = rw e (λ i. sink_rows (ew i) (ef i))

  pub other : is_device p ≡ false → w' ≡ put w (k * 10) (word_of (flag_at p 1) ∷ 0 ∷ []) → f' ≡ f → sink_rows w' f' ≡ sink_put p k (sink_rows w f)
  unfolding sink_put sink_words_if sink_floats_if
  other e ew ef =
      rw e (λ i. sink_rows
      ((ew ∙ sym (put_front 8 (k * 10) w (word_of (flag_at p 1) ∷ 0 ∷ []) wide)) i)
      ((ef ∙ sym (put_part 4 (k * 4) f long)) i))

-- the inputs, stored one by one between a device's other words
pub device_made : (p : List ℕ) {used count given : ℕ} {row : List ℕ} → used ≡ word_of (flag_at p 1) → count ≡ min (field_at 4 p 0x120) 6
    → given ≡ word_of (flag_at p 0x12b)
    → row ≡ put (used ∷ 1 ∷ count ∷ 0 ∷ 0 ∷ 0 ∷ 0 ∷ 0 ∷ 0 ∷ given ∷ []) 3 (table 6 (λ (k : ℕ). field_at 1 p (0x124 + k))) → row ≡ device_row p
unfolding device_row put table
device_made p eu ec eg e =
    let f : ℕ → ℕ = λ k. field_at 1 p (0x124 + k) in
    e ∙ (λ i. eu i ∷ 1 ∷ ec i ∷ f 0 ∷ f 1 ∷ f 2 ∷ f 3 ∷ f 4 ∷ f 5 ∷ eg i ∷ [])

pub is_device_lem : (p : List ℕ) {b : ℕ} → b ≡ field_at 1 p 0 → b ≡ 1 → is_device p ≡ true
unfolding is_device
is_device_lem p e h = eq-eqb (field_at 1 p 0) 1 (sym e ∙ h)

pub no_device : (p : List ℕ) {b : ℕ} → b ≡ field_at 1 p 0 → (b ≡ 1 → ⊥) → is_device p ≡ false
unfolding is_device
no_device p e h = ne_eqb (field_at 1 p 0) 1 (λ l. h (e ∙ l))
