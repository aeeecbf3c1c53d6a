-- A loop that changes each element of a list: the first i are done, and with what is still to do on the rest they are the whole.
-- Assumes nothing.
use Rattle.std.proofs.Common.{◌≡◌, ℕ, suc, ◌+◌, ◌<◌, ◌≤◌, List, [], ◌∷◌, ◌++◌, length, get_or, take, drop, set, sym, refl, ap, ◌∙◌, append-nil, add-one, arith, length-set, drop-cons, take-suc-set, drop-set-lt}
use lib.Seq.{append_snoc, take-length, drop-length}
use lib.Ieee.{Float, nan, binary32, add, mul}
use Rattle.gain.specs.Gain.{ramped, scaled, mixed, level}

-- f is what is still to do on the elements from i on, of n in all
pub record Doing (f : List Float → List Float) (n : ℕ) (whole xs : List Float) (i : ℕ) : Type 0 where
  pub count : i ≤ n
  pub size : length xs ≡ n
  pub left : take i xs ++ f (drop i xs) ≡ whole

pub begin : (f : List Float → List Float) (xs : List Float) → Doing f (length xs) (f xs) xs 0
begin f xs = record { count = omega arith; size = refl; left = refl }

module _ {f : List Float → List Float} {n : ℕ} {whole xs : List Float} {i : ℕ} (p : Doing f n whole xs i) where
  -- element i becomes x, and g is to do after it
  pub more : (g : List Float → List Float) (x : Float) → i < n → f (drop i xs) ≡ x ∷ g (drop (suc i) xs) → Doing g n whole (set xs i x) (i + 1)
  more g x h e =
      let b : i < length xs = omega (arith, p.size) in
      record {
        count = omega arith;
        size = length-set xs i x ∙ p.size;
        left = rw (add-one, take-suc-set xs i x b, drop-set-lt (suc i) xs i x (omega arith), append_snoc (take i xs) x (g (drop (suc i) xs)))
            (sym (ap (λ (ys : List Float). take i xs ++ ys) e) ∙ p.left);
      }

  pub end : n ≤ i → f [] ≡ [] → xs ≡ whole
  end h e =
      let b : i ≡ length xs = omega (arith, p.count, p.size) in
      let q : take (length xs) xs ++ f (drop (length xs) xs) ≡ whole = rw b at p.left in
      sym (append-nil xs) ∙ (rw (take-length xs, drop-length xs, e) at q)

-- ---- what each loop does to an element, and to none
pub ramped_at : (step v : Float) (xs : List Float) (i : ℕ) → i < length xs
    → ramped step v (drop i xs) ≡ mul binary32 (get_or xs i nan) v ∷ ramped step (add binary32 v step) (drop (suc i) xs)
unfolding ramped
ramped_at step v xs i h = rw (drop-cons xs i nan h)

pub scaled_at : (v : Float) (xs : List Float) (i : ℕ) → i < length xs
    → scaled v (drop i xs) ≡ mul binary32 (get_or xs i nan) v ∷ scaled v (drop (suc i) xs)
unfolding scaled
scaled_at v xs i h = rw (drop-cons xs i nan h)

pub mixed_at : (step v : Float) (ds ss : List Float) (i : ℕ) → i < length ds → i < length ss
    → mixed step v (drop i ds) (drop i ss)
    ≡ add binary32 (get_or ds i nan) (mul binary32 (get_or ss i nan) v) ∷ mixed step (add binary32 v step) (drop (suc i) ds) (drop (i + 1) ss)
unfolding mixed
mixed_at step v ds ss i h g = rw (add-one, drop-cons ds i nan h, drop-cons ss i nan g)

pub level_at_lem : (v : Float) (ds ss : List Float) (i : ℕ) → i < length ds → i < length ss
    → level v (drop i ds) (drop i ss) ≡ add binary32 (get_or ds i nan) (mul binary32 (get_or ss i nan) v) ∷ level v (drop (suc i) ds) (drop (i + 1) ss)
unfolding level
level_at_lem v ds ss i h g = rw (add-one, drop-cons ds i nan h, drop-cons ss i nan g)
