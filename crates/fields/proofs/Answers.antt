-- What a reader answers after its test, at each width. Assumes nothing.
use Rattle.std.proofs.Common.{◌≡◌, refl, sym, ◌∙◌, Bool, true, false, List, ℕ, zero, suc, ◌+◌, ◌-◌, ◌≤◌, ◌<◌, leb, length, take, drop, get_or, replicate, arith, leb-true, zero-add, get_or-take, get_or-drop}
use Rattle.std.proofs.lemmas.Bool.{leb-false}
use Rattle.fields.specs.Fields.{le, field_at}
use Rattle.fields.specs.Reads.{le_same, field_in, field_out}

pub passed : (a b : ℕ) {t : Bool} → t ≡ leb a b → t ≡ true → a ≤ b
passed a b e h = leb-true a b (sym e ∙ h)

pub failed : (a b : ℕ) {t : Bool} → t ≡ leb a b → t ≡ false → b < a
failed a b e h = leb-false a b (sym e ∙ h)

-- the bytes of a field, alone
pub reads_in : (w : ℕ) (d : List ℕ) (o : ℕ) → o + w ≤ length d → le w (take (o + w - o) (drop o d)) 0 ≡ field_at w d o
reads_in w d o h =
    le_same w (take (o + w - o) (drop o d)) d 0 o (λ i l. rw (zero-add, get_or-take (o + w - o) (drop o d) i 0 (omega arith), get_or-drop))
    ∙ sym (field_in w d o h)

abbrev pub zeros : ℕ → List ℕ
zeros n = replicate n 0

get_zero : (n i : ℕ) → get_or (zeros n) i 0 ≡ 0
get_zero zero i = refl
get_zero (suc n) zero = refl
get_zero (suc n) (suc i) = get_zero n i

le_zero : (w n o : ℕ) → le w (zeros n) o ≡ 0
unfolding le
le_zero zero n o = refl
le_zero (suc w) n o = rw (get_zero n o, le_zero w n (o + 1)) refl

-- zeros in place of a field that reaches past the end
pub reads_out : (w : ℕ) (d : List ℕ) (o : ℕ) → length d < o + w → le w (zeros w) 0 ≡ field_at w d o
reads_out w d o h = le_zero w w 0 ∙ sym (field_out w d o h)
