-- What a block of bytes holds: a context, that is the header, then the later and the earlier of the last two samples, 16 bits each;
-- or sixteen coefficients. Assumes nothing.
use Rattle.std.specs.Prelude.{ℕ, zero, suc, ◌*◌, List, [], ◌∷◌, ◌++◌, ℤ}
use Rattle.std.specs.Int.{w16}
use Rattle.std.proofs.Common.{to_z}
use Rattle.fields.specs.Fields.{field_at}
use Rattle.adpcm.specs.declared.context.AdpcmContext.{AdpcmContext}

unfoldable pub context_of : List ℕ → AdpcmContext
context_of d = record { pred_scale = field_at 2 d 0; history0 = to_z w16 (field_at 2 d 2); history1 = to_z w16 (field_at 2 d 4) }

-- the first n coefficients, 16 signed bits each
unfoldable pub first_coefficients : ℕ → List ℕ → List ℤ
first_coefficients zero d = []
first_coefficients (suc n) d = first_coefficients n d ++ (to_z w16 (field_at 2 d (n * 2)) ∷ [])

unfoldable pub coefficients_of : List ℕ → List ℤ
unfolding first_coefficients
coefficients_of d = first_coefficients 16 d
