-- `dsp_header::read::context` meets its contract. Assumes nothing.
use Prim.Native.Nat.{ℕ}
use mathlib.Core.Path.{◌≡◌}
use lib.IntN.{ℤ}
use Rattle.adpcm.specs.declared.context.AdpcmContext.{AdpcmContext}
use Rattle.dsp_header.specs.Header.{context_at}
use Rattle.dsp_header.proofs.Numbers.{signed_is}
use Rattle.dsp_header.proofs.read.context.Goals as goal

abbrev context_from : ℕ → ℤ → ℤ → AdpcmContext
context_from a x z = record { pred_scale = a; history0 = x; history1 = z }

made : {a b : ℕ} {x y z w : ℤ} → a ≡ b → x ≡ y → z ≡ w → context_from a x z ≡ context_from b y w
made p q r = λ i. context_from (p i) (q i) (r i)

pub returns : goal.returns
unfolding context_at
returns c =
    made c.word.ensures
    (signed_is _ _ c.cast_signed.type_inv c.cast_signed.ensures c.word-2.ensures)
    (signed_is _ _ c.cast_signed-2.type_inv c.cast_signed-2.ensures c.word-3.ensures)
