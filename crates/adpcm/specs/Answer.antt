-- The call for ADPCM alone: questions 8 and 9, and then the run. Assumes nothing.
use Rattle.std.specs.Prelude.{ℕ, ◌≤◌, ◌^◌, ◌≡◌, cond, List, ◌++◌, leb, Float, ℤ, pos, length, drop, Result, Ok, Err}
use Rattle.std.proofs.Common.{arith, le-leb}
use Rattle.adpcm.specs.Decode.{Run, run_of, floated}
use Rattle.adpcm.specs.Runs.{run_none}
use Rattle.adpcm.specs.declared.context.AdpcmContext.{AdpcmContext}
use Rattle.adpcm.specs.declared.decode.AdpcmError.{AdpcmError}
use Rattle.adpcm.specs.declared.decode.AdpcmError.TheVariants.{FarStart, ShortOutput}
use Rattle.adpcm.specs.declared.decode.Decoded.{Decoded}

-- what a call leaves: its number, 0 for success, its other results, and the lent output
pub record Outcome : Type 0 where
  pub number : ℕ
  pub done : ℕ
  pub context : AdpcmContext
  pub output : List Float

abbrev pub none : AdpcmContext
none = record { pred_scale = 0; history0 = pos 0; history1 = pos 0 }

-- a refusal: the other results are 0, and no lent memory changes
abbrev pub refused : ℕ → List Float → Outcome
refused n out = record { number = n; done = 0; context = none; output = out }

abbrev pub ran : Run → List Float → Outcome
ran r out = record { number = 0; done = length r.samples; context = r.context; output = floated r.samples ++ drop (length r.samples) out }

unfoldable pub outcome_of : List ℕ → ℕ → ℕ → List ℤ → AdpcmContext → List Float → Outcome
outcome_of s start count k x out =
    cond (leb start (2 ^ 60))
    (cond (leb count (length out)) (ran (run_of s start count k x) out) (refused 9 out))
    (refused 8 out)

-- the number of an error
abbrev pub number_of : AdpcmError → ℕ
number_of FarStart = 8
number_of ShortOutput = 9

-- an answer's number and values, with the output as the call left it
abbrev pub seen : Result Decoded AdpcmError → List Float → Outcome
seen (Ok d) out = record { number = 0; done = d.done; context = d.context; output = out }
seen (Err e) out = refused (number_of e) out

-- no samples: nothing is done, and the context and the output stay
pub outcome_none : (s : List ℕ) (start : ℕ) (k : List ℤ) (x : AdpcmContext) (out : List Float) → start ≤ 2 ^ 60
    → outcome_of s start 0 k x out ≡ record { number = 0; done = 0; context = x; output = out }
unfolding outcome_of
outcome_none s start k x out h = simp (le-leb _ _ h, le-leb 0 (length out) (omega arith), run_none)
