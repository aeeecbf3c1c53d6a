-- Laws of sections and of the rest from a place on. Assumes nothing.
use Rattle.std.specs.Prelude.{◌≡◌, refl, Bool, true, false, List, [], ℕ, zero, suc, ◌+◌, ◌-◌, ◌≤◌, ◌<◌, leb, length, take, drop}
use Rattle.std.proofs.Common.{sym, ◌∙◌, add_assoc, arith, leb-true, le-leb, length-drop, get_or-take, get_or-drop, length-take-le}
use Rattle.std.proofs.lemmas.Bool.{lt-leb}
use Rattle.fields.specs.Fields.{field_at, section_of, rest_of}
use Rattle.fields.specs.Reads.{field_same, field_none}

same_test : (t u : Bool) → (t ≡ true → u ≡ true) → (u ≡ true → t ≡ true) → t ≡ u
same_test true u f g = sym (f refl)
same_test false true f g = g refl
same_test false false f g = refl

leb_same : (a b c d : ℕ) → (a ≤ b → c ≤ d) → (c ≤ d → a ≤ b) → leb a b ≡ leb c d
leb_same a b c d f g = same_test (leb a b) (leb c d) (λ e. le-leb c d (f (leb-true a b e))) (λ e. le-leb a b (g (leb-true c d e)))

pub section_in : (s : List ℕ) (at n : ℕ) → at + n ≤ length s → section_of s at n ≡ take n (drop at s)
unfolding section_of
section_in s at n h = simp (le-leb _ _ h)

pub section_out : (s : List ℕ) (at n : ℕ) → length s < at + n → section_of s at n ≡ []
unfolding section_of
section_out s at n h = simp (lt-leb _ _ h)

pub length_section : (s : List ℕ) (at n : ℕ) → at + n ≤ length s → length (section_of s at n) ≡ n
length_section s at n h = rw section_in (length-take-le n (drop at s) (simp length-drop (omega arith)))

-- a field of a section is the input's
pub field_section : (s : List ℕ) (at n : ℕ) → at + n ≤ length s → (w o : ℕ) → o + w ≤ n → field_at w (section_of s at n) o ≡ field_at w s (at + o)
field_section s at n h w o i =
    let short : o + w ≤ length (section_of s at n) = omega (arith, length_section s at n h) in
    let long : at + o + w ≤ length s = omega arith in
    let l = le-leb _ _ short ∙ sym (le-leb _ _ long) in
    field_same w (section_of s at n) s o (at + o) l (λ j b. rw (section_in s at n h, get_or-take n (drop at s) (o + j) 0 (omega arith), get_or-drop, add_assoc))

-- a field of the rest is the input's, past the end too
pub field_rest : (s : List ℕ) (at w o : ℕ) → field_at w (rest_of s at) o ≡ field_at w s (at + o)
unfolding rest_of
field_rest s at zero o = field_none (drop at s) o ∙ sym (field_none s (at + o))
field_rest s at (suc w) o =
    let l : leb (o + suc w) (length (drop at s)) ≡ leb (at + o + suc w) (length s) =
    rw length-drop (leb_same (o + suc w) (length s - at) (at + o + suc w) (length s) (λ h. omega arith) (λ h. omega arith)) in
    field_same (suc w) (drop at s) s o (at + o) l (λ j b. rw (get_or-drop, add_assoc))
