-- `session::put_decimal` meets its contract: as many digits in base 10 as the number has. Assumes nothing.
use mathlib.Core.Path.{sym, ap, ◌∙◌}
use Prim.Native.Nat.{ℕ, ◌+◌}
use Rattle.rows.specs.Rows.{put}
use Rattle.session.specs.Text.{digits_of, places_of, decimal_of}
use Rattle.session.specs.Digits.{length_digits}
use Rattle.session.specs.Written.{appended}
use Rattle.session.proofs.digits.put_decimal.Goals as goal

pub returns : goal.returns
unfolding decimal_of
returns c =
    let places_is = c.places-k.ensures.0 in
    appended _ _ _ (c.put_digits.ensures ∙ ap (λ (k : ℕ). put c.args.out.now c.args.at (digits_of 10 k c.args.v)) places_is)
    (ap (λ (n : ℕ). c.args.at + n) (places_is ∙ sym (length_digits 10 (places_of c.args.v) c.args.v)))
