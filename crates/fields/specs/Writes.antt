-- Laws of what a writer leaves. Assumes nothing.
use Rattle.std.specs.Prelude.{◌≡◌, refl, List, [], ◌∷◌, ◌++◌, ℕ, zero, suc, ◌+◌, ◌-◌, ◌*◌, ◌/◌, ◌%◌, ◌^◌, ◌≤◌, ◌<◌, leb, take}
use Rattle.std.proofs.Math.Path.{ap}
use Rattle.std.proofs.Common.{sym, ◌∙◌, zero-add, length-append, length-take-le}
use Rattle.std.proofs.Math.Nat.{pow-succ'}
use native.Mathlib.Omega.{arith}
use Rattle.std.proofs.Math.ListN.{length, drop, get_or, get_or-append}
use Rattle.std.proofs.Math.Seq.{get_or-take, get_or-drop, get_or-append-add}
use Rattle.rows.specs.Rows.{put, length_put}
use Rattle.fields.specs.Fields.{le, field_at, bytes_of}
use Rattle.fields.specs.Reads.{le_same, field_in, field_same}

pub length_bytes : (w v : ℕ) → length (bytes_of w v) ≡ w
unfolding bytes_of
length_bytes zero v = refl
length_bytes (suc w) v = ap suc (length_bytes w (v / 256))

le_cons : (w x : ℕ) (d : List ℕ) → le w (x ∷ d) 1 ≡ le w d 0
le_cons w x d = le_same w (x ∷ d) d 1 0 (λ i h. rw zero-add (get_or-append-add (x ∷ []) d i 0))

-- the bytes of a number are that number
pub le_bytes : (w v : ℕ) → v < 256 ^ w → le w (bytes_of w v) 0 ≡ v
unfolding bytes_of le
le_bytes zero v h = omega arith
le_bytes (suc w) v h =
    let h' : v < 256 * 256 ^ w = rw pow-succ' at h in
    let below : v / 256 < 256 ^ w = omega arith in
    rw (le_cons w (v % 256) (bytes_of w (v / 256)), le_bytes w (v / 256) below) (omega arith)

module _ (d : List ℕ) (o : ℕ) (r : List ℕ) (fits : o + length r ≤ length d) where
  front : length (take o d) ≡ o
  front = length-take-le o d (omega arith)

  both : length (take o d ++ r) ≡ o + length r
  both = rw (length-append, front)

  -- each byte before, in and behind what was put
  pub get_d_put_before : (i : ℕ) → i < o → get_or (put d o r) i 0 ≡ get_or d i 0
  unfolding put
  get_d_put_before i h =
      let l : i < length (take o d) = omega (arith, front) in
      let m : i < length (take o d ++ r) = omega (arith, both) in
      get_or-append (take o d ++ r) (drop (o + length r) d) 0 i m ∙ get_or-append (take o d) r 0 i l ∙ get_or-take o d i 0 h

  pub get_d_put_in : (i : ℕ) → i < length r → get_or (put d o r) (o + i) 0 ≡ get_or r i 0
  unfolding put
  get_d_put_in i h =
      let m : o + i < length (take o d ++ r) = omega (arith, both) in
      get_or-append (take o d ++ r) (drop (o + length r) d) 0 (o + i) m
      ∙ ap (λ (n : ℕ). get_or (take o d ++ r) (n + i) 0) (sym front)
      ∙ get_or-append-add (take o d) r i 0

  pub get_d_put_after : (i : ℕ) → o + length r ≤ i → get_or (put d o r) i 0 ≡ get_or d i 0
  unfolding put
  get_d_put_after i h =
      let e : i ≡ o + length r + (i - (o + length r)) = omega arith in
      let e₂ : length (take o d ++ r) + (i - (o + length r)) ≡ i = omega (arith, both) in
      ap (λ (n : ℕ). get_or (take o d ++ r ++ drop (o + length r) d) n 0) (sym e₂)
      ∙ get_or-append-add (take o d ++ r) (drop (o + length r) d) (i - (o + length r)) 0
      ∙ get_or-drop (o + length r) d (i - (o + length r)) 0
      ∙ ap (λ (n : ℕ). get_or d n 0) (sym e)

  same_end : (w b : ℕ) → leb (b + w) (length (put d o r)) ≡ leb (b + w) (length d)
  same_end w b = ap (leb (b + w)) (length_put d o r fits)

  -- a field beside it is as it was
  pub field_put_before : (w b : ℕ) → b + w ≤ o → field_at w (put d o r) b ≡ field_at w d b
  field_put_before w b h = field_same w (put d o r) d b b (same_end w b) (λ i l. get_d_put_before (b + i) (omega arith))

  pub field_put_after : (w b : ℕ) → o + length r ≤ b → field_at w (put d o r) b ≡ field_at w d b
  field_put_after w b h = field_same w (put d o r) d b b (same_end w b) (λ i l. get_d_put_after (b + i) (omega arith))

-- the field that was put reads as the number
pub field_put : (w v : ℕ) (d : List ℕ) (o : ℕ) → v < 256 ^ w → o + w ≤ length d → field_at w (put d o (bytes_of w v)) o ≡ v
field_put w v d o h fits =
    let f : o + length (bytes_of w v) ≤ length d = rw length_bytes fits in
    let inside : o + w ≤ length (put d o (bytes_of w v)) = rw (length_put d o (bytes_of w v) f) fits in
    let bytes : (i : ℕ) → i < w → get_or (put d o (bytes_of w v)) (o + i) 0 ≡ get_or (bytes_of w v) (0 + i) 0 =
    λ i l. rw zero-add (get_d_put_in d o (bytes_of w v) f i (rw length_bytes l)) in
    field_in w _ o inside ∙ le_same w _ (bytes_of w v) o 0 bytes ∙ le_bytes w v h
