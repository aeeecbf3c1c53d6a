-- Decoding by the format's description, sample by sample: `s` holds the bytes from the byte `base` on, `k` the eight pairs of coefficients.
use Rattle.std.specs.Prelude.{ℕ, zero, suc, ◌+◌, ◌*◌, ◌-◌, ◌/◌, ◌%◌, Bool, true, false, cond, ◌≡◌, List, [], ◌∷◌, ◌++◌, map, Float, leb, eqb, ℤ, pos, length, get_or, drop, Result, Ok, Err}
use Rattle.std.specs.Float.{binary32}
use Rattle.std.specs.Float.Ieee.{of_int}
use Rattle.adpcm.specs.Places.{nibble_of}
use Rattle.adpcm.specs.Step.{step_of}
use Rattle.adpcm.specs.declared.context.AdpcmContext.{AdpcmContext}

-- a byte's high nibble, or its low one
abbrev pub half_of : Bool → ℕ → ℕ
half_of true b = b / 16
half_of false b = b % 16

-- a header's pair: predictors 8..15 are masked with 7
abbrev pub pair_of : ℕ → ℕ
pair_of header = header / 16 % 8 * 2

-- the context after the sample with the nibble v
abbrev pub after : ℕ → List ℤ → AdpcmContext → AdpcmContext
after v k x =
    record {
      pred_scale = x.pred_scale;
      history0 = step_of v (x.pred_scale % 16) (get_or k (pair_of x.pred_scale) (pos 0)) (get_or k (pair_of x.pred_scale + 1) (pos 0)) x.history0 x.history1;
      history1 = x.history0;
    }

-- the context with a header that was read
abbrev pub headed : ℕ → AdpcmContext → AdpcmContext
headed b x = record { pred_scale = b; history0 = x.history0; history1 = x.history1 }

-- what one sample leaves: it is the context's later sample, or the bytes had run out
abbrev pub Took : Type 0
Took = Result AdpcmContext AdpcmContext

-- a sample whose nibble is in the byte at a place of s
unfoldable pub value_of : List ℕ → ℕ → Bool → List ℤ → AdpcmContext → Took
value_of s at high k x = cond (leb (length s) at) (Err x) (Ok (after (half_of high (get_or s at 0)) k x))

-- sample m: at a frame's first sample the header is read first, and within a frame the context has it; high nibbles come first
unfoldable pub took_of : List ℕ → ℕ → List ℤ → ℕ → AdpcmContext → Took
took_of s base k m x =
    let at = nibble_of m / 2 - base in
    cond (eqb (m % 14) 0)
    (cond (leb (length s) at) (Err x) (value_of s (at + 1) true k (headed (get_or s at 0) x)))
    (value_of s at (eqb (nibble_of m % 2) 0) k x)

-- what a run of samples gives: the samples, and the context that is left
pub record Run : Type 0 where
  pub samples : List ℤ
  pub context : AdpcmContext

-- a run stops where the bytes run out; a header that was read before that stays
abbrev pub run_on : Took → (AdpcmContext → Run) → Run
run_on (Err x) f = record { samples = []; context = x }
run_on (Ok x) f = record { samples = x.history0 ∷ (f x).samples; context = (f x).context }

-- n samples from sample m on
unfoldable pub run_from : List ℕ → ℕ → List ℤ → ℕ → ℕ → AdpcmContext → Run
run_from s base k zero m x = record { samples = []; context = x }
run_from s base k (suc n) m x = run_on (took_of s base k m x) (run_from s base k n (m + 1))

-- the first byte of the slice is the one that holds the start's nibble
abbrev pub run_of : List ℕ → ℕ → ℕ → List ℤ → AdpcmContext → Run
run_of s start count k x = run_from s (nibble_of start / 2) k count start x

-- a sample as a float, which holds it exactly
abbrev pub floated : List ℤ → List Float
floated = map (of_int binary32)

-- what a decode leaves of a run: the count, the context, and the output, whose rest stays
pub record Decodes (r : Run) (before after : List Float) (done : ℕ) (x : AdpcmContext) : Type 0 where
  pub count : done ≡ length r.samples
  pub context : x ≡ r.context
  pub output : after ≡ floated r.samples ++ drop (length r.samples) before
