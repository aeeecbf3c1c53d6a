-- What a call that is not refused leaves, given back to the decoder: the samples that the encoder predicted, the context that it gave back,
-- and the sum of squared differences. Assumes nothing.
use Prim.Native.Nat.{ℕ, ◌+◌, ◌-◌, ◌/◌, ◌≤◌, ◌^◌}
use mathlib.Core.Path.{◌≡◌, sym, ap, ◌∙◌}
use mathlib.Core.List.{List, ◌++◌}
use native.Mathlib.Omega.{arith}
use borrow.Author.Tests.{le-leb}
use lib.Ieee.{Float}
use lib.IntN.{ℤ}
use lib.ListN.{length, drop}
use Rattle.adpcm.specs.Places.{size_of}
use Rattle.adpcm.specs.Decode.{Run, run_of, floated}
use Rattle.adpcm.specs.Answer.{ran, outcome_of}
use Rattle.adpcm.specs.declared.context.AdpcmContext.{AdpcmContext}
use Rattle.trial.specs.Trial.{squared_error}
use Rattle.encoder.specs.Encode.{Encoded, encoded_of, saturated}
use Rattle.encoder.specs.Answer.{EncodeOutcome, encode_wrote, encode_call}
use Rattle.encoder.proofs.Sizes.{count_of, length_encoded, reconstructed_encoded, error_encoded}
use Rattle.encoder.proofs.Decoded.{decoded}

module _ (ts k : List ℤ) (x : AdpcmContext) (out : List ℕ) (room : size_of (length ts) ≤ length out) where
  abbrev left : EncodeOutcome
  left = encode_call ts k x out

  abbrev encoding : Encoded
  encoding = encoded_of k ts x

  abbrev frames : ℕ
  frames = (length ts + 13) / 14

  pub call_wrote : left ≡ encode_wrote encoding out
  unfolding encode_call
  call_wrote = simp (le-leb (size_of (length ts)) (length out) room)

  -- as many bytes as `adpcm_size` says
  pub call_size : left.size ≡ size_of (length ts)
  call_size = ap (λ (o : EncodeOutcome). o.size) call_wrote ∙ length_encoded k frames ts x (count_of ts)

  -- the decoder, from sample 0 on and from the context that the encoder had, gives as many samples as there were, which are those that
  -- the encoder predicted, and leaves the context that the encoder gave back
  pub call_decoded : run_of left.output 0 (length ts) k x ≡ record { samples = encoding.reconstructed; context = left.context }
  call_decoded =
      let e = call_wrote in
      ap (λ (o : EncodeOutcome). run_of o.output 0 (length ts) k x) e
      ∙ decoded k ts x (drop (length encoding.bytes) out)
      ∙ ap (λ (o : EncodeOutcome). record { samples = encoding.reconstructed; context = o.context }) (sym e)

  pub call_predicted : length encoding.reconstructed ≡ length ts
  call_predicted = reconstructed_encoded k frames ts x (count_of ts)

  -- the same as the call for decoding has it: as many floats as samples, exactly theirs, and what lies beyond stays
  pub call_floats : (floats : List Float) → length ts ≤ length floats
      → outcome_of left.output 0 (length ts) k x floats
      ≡ record {
        number = 0;
        done = length ts;
        context = left.context;
        output = floated encoding.reconstructed ++ drop (length ts) floats;
      }
  unfolding outcome_of
  call_floats floats h =
      simp (le-leb (length ts) (length floats) h)
      (ap (λ (r : Run). ran r floats) call_decoded
      ∙ ap (λ (n : ℕ). record {
        number = 0;
        done = n;
        context = left.context;
        output = floated encoding.reconstructed ++ drop n floats;
      }) call_predicted)

  -- the error is the sum of squared differences from what the decoder gives, held at 2^64 - 1
  pub call_error : left.error ≡ saturated (squared_error ts (run_of left.output 0 (length ts) k x).samples)
  call_error =
      ap (λ (o : EncodeOutcome). o.error) call_wrote
      ∙ ap saturated (error_encoded k frames ts x (count_of ts) ∙ ap (λ (r : Run). squared_error ts r.samples) (sym call_decoded))

  -- and where it is not held, that sum
  pub call_exact : left.error ≤ 2 ^ 64 - 2 → left.error ≡ squared_error ts (run_of left.output 0 (length ts) k x).samples
  call_exact h = omega (arith, call_error)
