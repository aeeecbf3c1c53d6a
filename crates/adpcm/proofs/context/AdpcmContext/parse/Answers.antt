-- `adpcm::AdpcmContext::parse` meets its contract: each field is what its reader gives. Assumes nothing.
use mathlib.Core.Path.{◌∙◌, ap}
use mir.Syntax.{w16}
use mir.Val.{to_z}
use Rattle.adpcm.specs.Context.{context_of}
use Rattle.adpcm.proofs.Ints.{back}
use Rattle.adpcm.proofs.context.AdpcmContext.parse.Goals as goal

pub returns : goal.returns
unfolding context_of
returns c =
    let h0 = back w16 c.cast_signed.result c.cast_signed.type_inv ∙ c.cast_signed.ensures ∙ ap (to_z w16) c.u16_at-2.ensures in
    let h1 = back w16 c.cast_signed-2.result c.cast_signed-2.type_inv ∙ c.cast_signed-2.ensures ∙ ap (to_z w16) c.u16_at-3.ensures in
    λ i. record { pred_scale = c.u16_at.ensures i; history0 = h0 i; history1 = h1 i }
