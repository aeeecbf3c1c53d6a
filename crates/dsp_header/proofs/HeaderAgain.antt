-- A header that is written and read is the same. Assumes nothing.
use Prim.Native.Nat.{ℕ}
use mathlib.Core.Path.{◌≡◌, refl, sym, ap, ◌∙◌}
use mathlib.Core.List.{List, [], ◌∷◌, ◌++◌}
use lib.IntN.{ℤ, pos}
use lib.ListN.{length, get_or}
use Rattle.rows.specs.Tables.{table, joined}
use Rattle.dsp_header.specs.declared.DspHeader.{DspHeader}
use Rattle.dsp_header.specs.Big.{big, big_bytes}
use Rattle.dsp_header.specs.Header.{signed_at, coefficients_at, context_at, header_of, padding_of}
use Rattle.dsp_header.specs.Header.{signed_bytes, coefficient_bytes, context_bytes, three_bytes, front_bytes, back_bytes, header_bytes}
use Rattle.dsp_header.specs.Within.{Within}
use Rattle.dsp_header.proofs.Again.{big_again, signed_again}

-- a list by its elements
table_list : (c : List ℤ) → table (length c) (λ k. get_or c k (pos 0)) ≡ c
unfolding table
table_list [] = refl
table_list (x ∷ c) = ap (λ (r : List ℤ). x ∷ r) (table_list c)

module _ (h : DspHeader) (p : Within h) (y : List ℕ) where
  read_coefficients : table 16 (λ k. signed_at (signed_bytes (get_or h.coefficients k (pos 0)) ++ []) 0) ≡ h.coefficients
  read_coefficients =
      (λ i. table 16 (λ k. signed_again (get_or h.coefficients k (pos 0)) [] (p.coefficients k) i))
      ∙ ap (λ (n : ℕ). table n (λ k. get_or h.coefficients k (pos 0))) (sym p.sixteen)
      ∙ table_list h.coefficients

  -- whatever stands behind the header; every value is read from the bytes that it was written to
  pub header_values_again : header_of (header_bytes h ++ y) ≡ h
  unfolding big signed_at coefficients_at context_at header_of table
      big_bytes signed_bytes coefficient_bytes context_bytes three_bytes front_bytes back_bytes header_bytes joined
  header_values_again =
      λ i. record {
        samples = big_again 4 h.samples [] p.samples i;
        nibbles = big_again 4 h.nibbles [] p.nibbles i;
        rate = big_again 4 h.rate [] p.rate i;
        loop_flag = big_again 2 h.loop_flag [] p.flag i;
        format = big_again 2 h.format [] p.format i;
        loop_start = big_again 4 h.loop_start [] p.loop_start i;
        loop_end = big_again 4 h.loop_end [] p.loop_end i;
        address = big_again 4 h.address [] p.address i;
        coefficients = read_coefficients i;
        gain = big_again 2 h.gain [] p.gain i;
        start_context = record {
          pred_scale = big_again 2 h.start_context.pred_scale [] p.start.header i;
          history0 = signed_again h.start_context.history0 [] p.start.later i;
          history1 = signed_again h.start_context.history1 [] p.start.earlier i;
        };
        loop_context = record {
          pred_scale = big_again 2 h.loop_context.pred_scale [] p.loop.header i;
          history0 = signed_again h.loop_context.history0 [] p.loop.later i;
          history1 = signed_again h.loop_context.history1 [] p.loop.earlier i;
        };
      }

  -- and the padding is 0
  pub padding_again : padding_of (header_bytes h ++ y) ≡ 0
  unfolding big big_bytes padding_of signed_bytes coefficient_bytes context_bytes three_bytes front_bytes back_bytes header_bytes joined
  padding_again = refl
