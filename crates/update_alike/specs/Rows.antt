-- A row of a list in which elements are put: one that is among them, and one that stands before them. Assumes nothing.
use Rattle.std.specs.Prelude.{◌≡◌, refl, ℕ, ◌+◌, ◌≤◌}
use Rattle.std.proofs.Math.Path.{ap}
use Rattle.std.proofs.Common.{sym, ◌∙◌, length-append, length-take, take-append-drop, length-take-le}
use mathlib.Core.List.{List, ◌++◌, append_assoc}
use native.Mathlib.Omega.{arith}
use Rattle.std.proofs.Math.ListN.{length, take, drop, length-drop}
use Rattle.std.proofs.lemmas.List.{take-append-le}
use Rattle.std.proofs.Math.Seq.{drop-append-le, drop-append-add}
use Rattle.rows.specs.Rows.{part, put}

module _ {ℓ} {A : Type ℓ} where
  part_append : (w b : ℕ) (p x : List A) → b + w ≤ length p → part w b (p ++ x) ≡ part w b p
  unfolding part
  part_append w b p x h =
      let hb : b ≤ length p = omega arith in
      let hw : w ≤ length (drop b p) = simp length-drop (omega arith) in
      rw drop-append-le (take-append-le w (drop b p) x hw)

  module _ (s : List A) (at : ℕ) (r : List A) where
    put_apart : put s at r ≡ take at s ++ (r ++ drop (at + length r) s)
    unfolding put
    put_apart = append_assoc (take at s) r (drop (at + length r) s)

    -- a row of what is put
    pub row_among : (w b : ℕ) → b + w ≤ length r → at ≤ length s → part w (at + b) (put s at r) ≡ part w b r
    unfolding part
    row_among w b h fits =
        let e : at + b ≡ length (take at s) + b = rw (length-take-le at s fits) in
        let x = drop (at + length r) s in
        ap (part w (at + b)) put_apart
        ∙ ap (λ (n : ℕ). take w (drop n (take at s ++ (r ++ x)))) e
        ∙ ap (take w) (drop-append-add (take at s) (r ++ x) b)
        ∙ part_append w b r x h

  module _ (w b : ℕ) (s : List A) where
    -- the w elements of s from b are in t, at the same place
    pub record RowKept (t : List A) : Type ℓ where
      pub row : part w b t ≡ part w b s
      pub inside : b + w ≤ length t

    -- and stay there when elements behind them are put, however many
    pub put_behind : (t : List A) (at : ℕ) (r : List A) → b + w ≤ at → RowKept t → RowKept (put t at r)
    put_behind t at r h k =
        let fits : b + w ≤ length (take at t) = rw length-take (omega (arith, k.inside)) in
        record {
          row =
              ap (part w b) (put_apart t at r)
              ∙ part_append w b (take at t) _ fits
              ∙ sym (part_append w b (take at t) (drop at t) fits)
              ∙ ap (part w b) (take-append-drop at t)
              ∙ k.row;
          inside = rw (put_apart, length-append) (omega (arith, fits));
        }

    -- where three are put behind it, a row stays
    pub puts_behind : (x y z : ℕ) (p q r : List A) → b + w ≤ x → b + w ≤ y → b + w ≤ z → b + w ≤ length s
        → part w b (put (put (put s x p) y q) z r) ≡ part w b s
    puts_behind x y z p q r hx hy hz l =
        (put_behind _ z r hz (put_behind _ y q hy (put_behind s x p hx (record { row = refl; inside = l })))).row
