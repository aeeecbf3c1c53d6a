-- Lists written into a list one behind the other: with what is left written too, it is the whole. Assumes nothing.
use Rattle.std.specs.Prelude.{◌≡◌, refl, List, ◌++◌, ℕ, ◌+◌, ◌≤◌, length}
use Rattle.std.proofs.Common.{ap, sym, ◌∙◌, arith, length-append}
use Rattle.rows.specs.Rows.{put, length_put, put_put}

module _ {ℓ} {A : Type ℓ} where
  -- `whole` is to stand in `s` from `at` on; so far the list is `t`, and `rest` is left, from `to` on
  pub record Writing (s : List A) (at : ℕ) (whole t : List A) (to : ℕ) (rest : List A) : Type ℓ where
    pub room : to + length rest ≤ length t
    pub left : put t to rest ≡ put s at whole

  pub write_begin : (s : List A) (at : ℕ) (whole : List A) → at + length whole ≤ length s → Writing s at whole s at whole
  write_begin s at whole h = record { room = h; left = refl }

  module _ {s : List A} {at : ℕ} {whole t : List A} {to : ℕ} where
    -- the next, m long
    pub write_more : (q rest : List A) → Writing s at whole t to (q ++ rest)
        → {m from : ℕ} {u : List A} → length q ≡ m → from ≡ to → u ≡ put t from q → Writing s at whole u (to + m) rest
    write_more q rest w {m} {from} {u} lq ef e =
        let r : to + length q + length rest ≤ length t = omega (arith, w.room, length-append q rest) in
        let f : to + length q ≤ length t = omega arith in
        let d : u ≡ put t to q = e ∙ ap (λ (k : ℕ). put t k q) ef in
        let l : length u ≡ length t = ap length d ∙ length_put t to q f in
        record {
          room = omega arith;
          left = (λ i. put (d i) (to + sym lq i) rest) ∙ put_put t to q rest r ∙ w.left;
        }

    -- the last
    pub write_last : (q : List A) → Writing s at whole t to q → {from : ℕ} {u : List A} → from ≡ to → u ≡ put t from q → u ≡ put s at whole
    write_last q w {from} {u} ef e = e ∙ ap (λ (k : ℕ). put t k q) ef ∙ w.left
