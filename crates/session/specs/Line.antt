-- A line of the session program, piece by piece: its word and number, what follows them, and its end. Assumes nothing.
use Rattle.std.specs.Prelude.{◌≡◌, List, ◌++◌, ℕ, ◌+◌, ◌≤◌, length}
use Rattle.std.proofs.Common.{ap, ◌∙◌, arith, length-append}
use Rattle.session.specs.Text.{Text, text, append, decimal_of}
use Rattle.session.specs.Lines.{line_end}
use Rattle.session.specs.Digits.{length_decimal}
use Rattle.session.specs.Written.{end_is, append_two, length_append_text}

-- word w, number n, and the rest b, which is at most m bytes
module _ (s w : List ℕ) (n : ℕ) (b : List ℕ) (m : ℕ) (small : length b ≤ m) (room : length w + m + 6 ≤ length s)
    {u : List ℕ} {r : ℕ} (head : text u r ≡ append (text s 0) (w ++ decimal_of n)) where
  head_long : length (w ++ decimal_of n) ≤ length w + 5
  head_long = omega (arith, length-append w (decimal_of n), length_decimal n)

  -- where the rest begins
  pub head_near : r ≤ length w + 5
  head_near = omega (arith, end_is _ _ head, head_long)

  module _ {v : List ℕ} {q : ℕ} (rest : text v q ≡ append (text u r) b) where
    both : text v q ≡ append (text s 0) (w ++ decimal_of n ++ b)
    both = append_two _ _ b (omega (arith, head_long)) head rest

    both_long : length (w ++ decimal_of n ++ b) ≤ length w + 5 + m
    both_long = omega (arith, length-append (w ++ decimal_of n) b, head_long)

    -- where the line's end stands
    pub rest_near : q ≤ length w + 5 + m
    rest_near = omega (arith, end_is _ _ both, both_long)

    module _ {x : List ℕ} {y : ℕ} (end : text x y ≡ append (text v q) line_end) where
      pub line_written : text x y ≡ append (text s 0) (w ++ decimal_of n ++ b ++ line_end)
      line_written = append_two _ _ line_end (omega (arith, both_long)) both end

      line_long : length (w ++ decimal_of n ++ b ++ line_end) ≤ length w + 6 + m
      line_long = omega (arith, length-append (w ++ decimal_of n ++ b) line_end, both_long)

      pub line_inside : y ≤ length x
      line_inside =
          let same : length x ≡ length s = ap (λ (t : Text). length t.bytes) line_written ∙ length_append_text (text s 0) _ (omega (arith, line_long)) in
          omega (arith, end_is _ _ line_written, line_long)
