-- The bytes of a header that are read and written are the same, if the padding is 0. Assumes nothing.
use Prim.Native.Nat.{ℕ, zero, suc, ◌+◌, ◌*◌, ◌≤◌}
use mathlib.Core.Path.{◌≡◌, refl, sym, ap, ◌∙◌}
use mathlib.Core.List.{List, ◌++◌}
use native.Mathlib.Omega.{arith}
use lib.ListN.{length, take, drop}
use lib.Seq.{take-add, drop-drop}
use Rattle.rows.specs.Rows.{part}
use Rattle.rows.specs.Tables.{table, joined}
use Rattle.dsp_header.specs.Big.{big, big_bytes}
use Rattle.dsp_header.specs.Header.{header_size, signed_at, coefficients_at, context_at, header_of, padding_of}
use Rattle.dsp_header.specs.Header.{signed_bytes, coefficient_bytes, context_bytes, three_bytes, front_bytes, back_bytes, header_bytes}
use Rattle.dsp_header.specs.Within.{Bytes}
use Rattle.dsp_header.proofs.Again.{bytes_again, signed_bytes_again}

-- two parts, one behind the other
cut : (d : List ℕ) (o a b : ℕ) {x y : List ℕ} → x ≡ part a o d → y ≡ part b (o + a) d → x ++ y ≡ part (a + b) o d
unfolding part
cut d o a b p q =
    (λ i. p i ++ q i)
    ∙ ap (λ (r : List ℕ). take a (drop o d) ++ take b r) (sym (drop-drop a o d))
    ∙ sym (take-add a b (drop o d))

module _ (d : List ℕ) (bytes : Bytes d) where
  parts_joined : (n o : ℕ) → o + n * 2 ≤ length d → joined n (λ k. signed_bytes (signed_at d (o + k * 2))) ≡ part (n * 2) o d
  unfolding joined part
  parts_joined zero o h = refl
  parts_joined (suc n) o h =
      let e : n * 2 + 2 ≡ suc n * 2 = omega arith in
      cut d o (n * 2) 2 (parts_joined n o (omega arith)) (signed_bytes_again d (o + n * 2) bytes (omega arith))
      ∙ ap (λ (m : ℕ). part m o d) e

  coefficients_again : (o : ℕ) → o + 32 ≤ length d → coefficient_bytes (coefficients_at d o) ≡ part 32 o d
  unfolding coefficients_at coefficient_bytes table joined
  coefficients_again o h = parts_joined 16 o h

  three_again : (o : ℕ) → o + 12 ≤ length d → three_bytes (big 4 d o) (big 4 d (o + 4)) (big 4 d (o + 8)) ≡ part 12 o d
  unfolding three_bytes
  three_again o h =
      cut d o 8 4 (cut d o 4 4 (bytes_again 4 d o bytes (omega arith)) (bytes_again 4 d (o + 4) bytes (omega arith)))
      (bytes_again 4 d (o + 8) bytes (omega arith))

  context_again : (o : ℕ) → o + 6 ≤ length d → context_bytes (context_at d o) ≡ part 6 o d
  unfolding context_at context_bytes
  context_again o h =
      cut d o 4 2 (cut d o 2 2 (bytes_again 2 d o bytes (omega arith)) (signed_bytes_again d (o + 2) bytes (omega arith)))
      (signed_bytes_again d (o + 4) bytes (omega arith))

  module _ (long : header_size ≤ length d) where
    front_again : front_bytes (header_of d) ≡ part 28 0 d
    unfolding header_of front_bytes
    front_again =
        cut d 0 16 12
        (cut d 0 14 2
        (cut d 0 12 2 (three_again 0 (omega arith)) (bytes_again 2 d 0x0c bytes (omega arith)))
        (bytes_again 2 d 0x0e bytes (omega arith)))
        (three_again 0x10 (omega arith))

    back_again : padding_of d ≡ 0 → back_bytes (header_of d) ≡ part 68 0x1c d
    unfolding header_of back_bytes padding_of
    back_again z =
        cut d 0x1c 46 22
        (cut d 0x1c 40 6
        (cut d 0x1c 34 6
        (cut d 0x1c 32 2 (coefficients_again 0x1c (omega arith)) (bytes_again 2 d 0x3c bytes (omega arith)))
        (context_again 0x3e (omega arith)))
        (context_again 0x44 (omega arith)))
        (ap (big_bytes 22) (sym z) ∙ bytes_again 22 d 0x4a bytes (omega arith))

    pub header_bytes_again : padding_of d ≡ 0 → header_bytes (header_of d) ≡ part header_size 0 d
    unfolding header_bytes
    header_bytes_again z = cut d 0 28 68 front_again (back_again z)
