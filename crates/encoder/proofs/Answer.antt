-- The call for an encoding: question 15, and then the encoding. Assumes nothing.
use Prim.Native.Nat.{ℕ, ◌+◌, ◌/◌, ◌≤◌, ◌<◌}
use mathlib.Core.Path.{◌≡◌, sym, ◌∙◌}
use native.Mathlib.Omega.{arith}
use borrow.Author.Tests.{le-leb, lt-leb}
use mathlib.Core.List.{List, ◌++◌}
use lib.IntN.{ℤ}
use lib.ListN.{length, drop}
use Rattle.adpcm.specs.Places.{size_of}
use Rattle.adpcm.specs.declared.context.AdpcmContext.{AdpcmContext}
use Rattle.encoder.proofs.Sizes.{count_of, length_encoded}
use Rattle.encoder.specs.Answer.{encode_refused, encode_call, Encodes}
use Rattle.encoder.specs.Encode.{encoded_of}

module _ (ts k : List ℤ) (x : AdpcmContext) (out : List ℕ) where
  -- the output is too short
  pub outcome_short : length out < size_of (length ts) → encode_refused 15 out ≡ encode_call ts k x out
  unfolding encode_call
  outcome_short h = simp (lt-leb (size_of (length ts)) (length out) h)

  -- it is not, and its first n bytes, where n is the size, are the encoding
  pub outcome_done : (n : ℕ) (new : List ℕ) (y : AdpcmContext) (e : ℕ) → n ≡ size_of (length ts) → n ≤ length out → Encodes k ts x new y e
      → record { number = 0; size = n; context = y; error = e; output = new ++ drop n out } ≡ encode_call ts k x out
  unfolding encode_call
  outcome_done n new y e is h p =
      let l : size_of (length ts) ≤ length out = omega (arith, is) in
      let long : n ≡ length (encoded_of k ts x).bytes = is ∙ sym (length_encoded k ((length ts + 13) / 14) ts x (count_of ts)) in
      (λ i. record { number = 0; size = long i; context = p.context i; error = p.error_is i; output = p.bytes i ++ drop (long i) out })
      ∙ simp (le-leb (size_of (length ts)) (length out) l)
