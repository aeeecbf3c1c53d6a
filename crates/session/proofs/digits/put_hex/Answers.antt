-- `session::put_hex` meets its contract: digits in base 16. Assumes nothing.
use mathlib.Core.Path.{sym, ap}
use Prim.Native.Nat.{ℕ, ◌+◌}
use Rattle.session.specs.Text.{hex_of}
use Rattle.session.specs.Digits.{length_hex}
use Rattle.session.specs.Written.{appended}
use Rattle.session.proofs.digits.put_hex.Goals as goal

pub returns : goal.returns
unfolding hex_of
returns c =
    appended _ _ _ c.put_digits.ensures (ap (λ (n : ℕ). c.args.at + n) (sym (length_hex c.args.k c.args.v)))
