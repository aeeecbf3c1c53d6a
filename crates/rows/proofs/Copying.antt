-- A copy of n elements of `s`, from index `from`, to index `to` of a list: the first k are there after k turns.
-- Assumes nothing.
use mathlib.Core.Path.{◌≡◌, ap, sym, ◌∙◌}
use mathlib.Core.List.{List, [], ◌∷◌, ◌++◌}
use Prim.Native.Nat.{ℕ, ◌+◌, ◌≤◌, ◌<◌}
use native.Mathlib.Omega.{arith}
use lib.ListN.{length, set, get_or, length-set}
use Rattle.rows.specs.Rows.{put, part, length_part, part_all, part_more, put_all, put_one, put_put, put_part}

module _ {ℓ} {A : Type ℓ} where
  pub record Copying (d₀ : List A) (to : ℕ) (s : List A) (from n : ℕ) (d : List A) (k : ℕ) : Type ℓ where
    pub count : k ≤ n
    pub size : length d ≡ length d₀
    pub copied : d ≡ put d₀ to (part k from s)

  pub begin : (d : List A) (to : ℕ) (s : List A) (from n : ℕ) → to ≤ length d → Copying d to s from n d 0
  unfolding part
  begin d to s from n h =
      record { count = omega arith; size = omega arith; copied = sym (put_part 0 to d (omega arith)) }

  module _ {d₀ : List A} {to : ℕ} {s : List A} {from n : ℕ} {d : List A} {k : ℕ} (p : Copying d₀ to s from n d k) where
    -- by one element x, which `s` has in place j
    pub more : {x : A} (i j : ℕ) → i ≡ to + k → j ≡ from + k → x ≡ get_or s j x → k < n → to + n ≤ length d₀ → from + n ≤ length s
        → Copying d₀ to s from n (set d i x) (k + 1)
    more {x} i j ei ej ex h hd hs =
        let long : length (part k from s) ≡ k = length_part k from s (omega arith) in
        let there : to + k < length d = omega (arith, p.size) in
        let found : x ≡ get_or s (from + k) x = ex ∙ ap (λ (m : ℕ). get_or s m x) ej in
        let fits : to + length (part k from s) + 1 ≤ length d₀ = omega arith in
        record {
          count = omega arith;
          size = simp length-set p.size;
          copied = rw ei (put_one d (to + k) x there)
              ∙ (λ m. put (p.copied m) (to + sym long m) (x ∷ []))
              ∙ put_put d₀ to (part k from s) (x ∷ []) fits
              ∙ ap (λ (y : A). put d₀ to (part k from s ++ y ∷ [])) found
              ∙ ap (put d₀ to) (sym (part_more k from s x (omega arith)));
        }

    full : n ≤ k → k ≡ n
    full h = omega (arith, p.count)

    -- the whole of `s` is copied in
    pub end_in : from ≡ 0 → n ≡ length s → n ≤ k → d ≡ put d₀ to s
    end_in e l h = p.copied ∙ ap (put d₀ to) (rw (full h, e, l) (part_all s))

    -- the whole of `d₀` is copied over
    pub end_out : to ≡ 0 → n ≡ length d₀ → from + n ≤ length s → n ≤ k → d ≡ part n from s
    end_out e l b h = p.copied ∙ rw (full h, e) (put_all d₀ (part n from s) (length_part n from s b ∙ l))
