-- A list as its elements one by one, and as its parts one after the other. Assumes nothing.
use Rattle.std.specs.Prelude.{◌≡◌, refl, List, [], ◌∷◌, ◌++◌, ℕ, zero, suc, ◌+◌, ◌<◌, length, get_or, drop}
use Rattle.std.proofs.Math.Path.{ap, sym}
use Rattle.std.proofs.Common.{◌∙◌, take-add}
use Rattle.std.proofs.Math.ListN.{take}
use Rattle.std.proofs.Math.Seq.{get_or-take, get_or-drop, take-length}
use Rattle.rows.specs.Rows.{part}

module _ {ℓ} {A : Type ℓ} where
  -- f 0, f 1, .., f (n - 1)
  abbrev pub spell : ℕ → (ℕ → A) → List A
  spell zero f = []
  spell (suc n) f = f 0 ∷ spell n (λ k. f (suc k))

  pub spelled_all : (d : A) (l : List A) → spell (length l) (λ k. get_or l k d) ≡ l
  spelled_all d [] = refl
  spelled_all d (x ∷ l) = ap (λ (t : List A). x ∷ t) (spelled_all d l)

  pub spelled : (n : ℕ) (d : A) (l : List A) → length l ≡ n → spell n (λ k. get_or l k d) ≡ l
  spelled n d l h = ap (λ (m : ℕ). spell m (λ k. get_or l k d)) (sym h) ∙ spelled_all d l

  -- an element of a part
  pub part_at : (w at : ℕ) (s : List A) (k : ℕ) (d : A) → k < w → get_or (part w at s) k d ≡ get_or s (at + k) d
  unfolding part
  part_at w at s k d h = get_or-take w (drop at s) k d h ∙ get_or-drop at s k d

  -- the first n and the next w are the first n + w
  pub part_on : (n w : ℕ) (s : List A) → part n 0 s ++ part w n s ≡ part (n + w) 0 s
  unfolding part
  part_on n w s = sym (take-add n w s)

  pub part_whole : (n : ℕ) (s : List A) → length s ≡ n → part n 0 s ≡ s
  unfolding part
  part_whole n s h = ap (λ (m : ℕ). take m s) (sym h) ∙ take-length s
