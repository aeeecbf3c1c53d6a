-- `session::put_bytes` meets its contract: the part that is lent comes back as the bytes. Assumes nothing.
use mathlib.Core.Path.{refl}
use Rattle.rows.specs.Lent.{returned_is}
use Rattle.session.specs.Written.{appended}
use Rattle.session.proofs.digits.put_bytes.Goals as goal

pub returns : goal.returns
returns c = appended _ _ _ (returned_is c.args.out.now c.args.at _ c.requires c.copy_from_slice.ensures.after refl) refl
