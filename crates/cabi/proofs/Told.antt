-- A header by its parts, a reading's outcome by its number, and an encoding's and a merge's answer in numbers. Assumes nothing.
use Prim.Native.Nat.{ℕ}
use mathlib.Core.Bool.{Bool, true, false, cond}
use mathlib.Core.List.{List}
use mathlib.Core.Path.{◌≡◌, refl, sym, ap, ◌∙◌}
use Rattle.std.specs.Prelude.{Result, Ok, Err}
use borrow.Author.Tests.{eq-eqb, ne_eqb}
use lib.Dec.{eqb}
use Rattle.std.specs.Prelude.{Result, Ok, Err}
use lib.ListN.{length}
use Rattle.adpcm.specs.declared.context.AdpcmContext.{AdpcmContext}
use Rattle.dsp_header.specs.declared.DspHeader.{DspHeader}
use Rattle.dsp_header.specs.Header.{header_size}
use Rattle.dsp_file.specs.File.{ReadOutcome, data_of}
use Rattle.encoder.specs.Answer.{encode_seen}
use Rattle.encoder.specs.declared.encode.EncodeError.{EncodeError}
use Rattle.encoder.specs.declared.frame.Encoding.{Encoding}
use Rattle.merging.specs.Answer.{merge_seen}
use Rattle.merging.specs.declared.MergeError.{MergeError}
use Rattle.cabi.specs.Dsp.{Placed, placed}
use Rattle.cabi.specs.Encode.{encode_left, encode_told}
use Rattle.cabi.specs.Merge.{merge_in, merge_told}

-- a header with other contexts
abbrev pub with_contexts : AdpcmContext → AdpcmContext → DspHeader → DspHeader
with_contexts a b h = record {
  samples = h.samples;
  nibbles = h.nibbles;
  rate = h.rate;
  loop_flag = h.loop_flag;
  format = h.format;
  loop_start = h.loop_start;
  loop_end = h.loop_end;
  address = h.address;
  coefficients = h.coefficients;
  gain = h.gain;
  start_context = a;
  loop_context = b;
}

abbrev pub placed_as : ℕ → DspHeader → ℕ → ℕ → Placed
placed_as n h from long = record { number = n; header = h; from = from; long = long }

module _ (o : ReadOutcome) (file : List ℕ) {n : ℕ} {h : DspHeader} (en : n ≡ o.number) (eh : h ≡ o.header) where
  -- by whether the number is 0
  by : (b : Bool) {f l : ℕ} → eqb o.number 0 ≡ b → f ≡ cond b header_size 0 → l ≡ cond b (length (data_of file)) 0
      → placed_as n h f l ≡ placed o file
  by b e p q =
      let from = p ∙ ap (λ (t : Bool). cond t header_size 0) (sym e) in
      let long = q ∙ ap (λ (t : Bool). cond t (length (data_of file)) 0) (sym e) in
      λ i. placed_as (en i) (eh i) (from i) (long i)

  pub placed_read : {l : ℕ} → n ≡ 0 → l ≡ length (data_of file) → placed_as n h header_size l ≡ placed o file
  placed_read z e = by true (eq-eqb o.number 0 (sym en ∙ z)) refl e

  pub placed_refused : (n ≡ 0 → ⊥) → placed_as n h 0 0 ≡ placed o file
  placed_refused f = by false (ne_eqb o.number 0 (λ z. f (en ∙ z))) refl refl

-- both ways of reading an encoding's answer agree
pub encode_seen_lem : (a : Result (ℕ × Encoding) EncodeError) (out : List ℕ) → encode_left (encode_told a) out ≡ encode_seen a out
encode_seen_lem (Ok a) out = refl
encode_seen_lem (Err e) out = refl

-- and a merge's
pub merge_seen_lem : (a : Result ℕ MergeError) (out : List ℕ) → merge_in (merge_told a) out ≡ merge_seen a out
merge_seen_lem (Ok size) out = refl
merge_seen_lem (Err e) out = refl
