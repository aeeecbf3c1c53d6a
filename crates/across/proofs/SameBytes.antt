-- Bytes that are the same are decoded alike, wherever they lie. Assumes nothing.
use Prim.Native.Nat.{ℕ}
use mathlib.Core.List.{List}
use mathlib.Core.Path.{◌≡◌, subst}
use lib.Ieee.{Float}
use lib.IntN.{ℤ}
use Rattle.adpcm.specs.Decode.{run_of, Decodes}
use Rattle.adpcm.specs.declared.context.AdpcmContext.{AdpcmContext}
use Rattle.adpcm.specs.declared.places.Sample.{Sample}

pub decodes_same : {d e : List ℕ} (start : Sample) (want : ℕ) (k : List ℤ) (x : AdpcmContext)
    {before after : List Float} {n : ℕ} {y : AdpcmContext}
    → d ≡ e → Decodes (run_of d start.0 want k x) before after n y → Decodes (run_of e start.0 want k x) before after n y
decodes_same start want k x {before} {after} {n} {y} p r =
    subst (λ (l : List ℕ). Decodes (run_of l start.0 want k x) before after n y) p r
