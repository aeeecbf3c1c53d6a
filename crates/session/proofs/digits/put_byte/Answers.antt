-- `session::put_byte` meets its contract: a piece of one byte. Assumes nothing.
use mathlib.Core.Path.{refl}
use native.Mathlib.Omega.{arith}
use Rattle.rows.specs.Rows.{put_one}
use Rattle.session.specs.Written.{appended}
use Rattle.session.proofs.digits.put_byte.Goals as goal

pub returns : goal.returns
returns c = appended _ _ _ (put_one _ _ _ (omega arith)) refl
