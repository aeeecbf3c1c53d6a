-- Lists made by index, an element or a row for each, and the loops that store them. Assumes nothing.
use Rattle.std.specs.Prelude.{◌≡◌, length, set, get_or}
use Rattle.std.proofs.Math.Path.{refl, ap, sym}
use Rattle.std.proofs.Common.{◌∙◌, length-set, length-append}
use mathlib.Core.List.{List, [], ◌∷◌, ◌++◌}
use Prim.Native.Nat.{ℕ, zero, suc, ◌+◌, ◌*◌, ◌≤◌, ◌<◌}
use Rattle.std.proofs.Math.Numerals.{add-one}
use Rattle.std.proofs.Math.Nat.{suc-mul}
use native.Mathlib.Omega.{arith}
use Rattle.std.proofs.Math.ListN.{replicate}
use Rattle.rows.specs.Rows.{put, length_put, put_part, put_one, put_put, put_more, part}
use Rattle.rows.specs.Folds.{row_end}

module _ {ℓ} {A : Type ℓ} where
  -- f 0 to f (n - 1)
  unfoldable pub table : ℕ → (ℕ → A) → List A
  table zero f = []
  table (suc n) f = f zero ∷ table n (λ k. f (suc k))

  -- rows f 0 to f (n - 1), one behind the other
  unfoldable pub joined : ℕ → (ℕ → List A) → List A
  joined zero f = []
  joined (suc n) f = joined n f ++ f n

  -- ---- laws

  pub length_table : (n : ℕ) (f : ℕ → A) → length (table n f) ≡ n
  unfolding table
  length_table zero f = refl
  length_table (suc n) f = ap suc (length_table n (λ k. f (suc k)))

  -- a table of one value
  pub table_same : (n : ℕ) (x : A) → table n (λ _. x) ≡ replicate n x
  unfolding table
  table_same zero x = refl
  table_same (suc n) x = ap (λ (xs : List A). x ∷ xs) (table_same n x)

  pub get_d_table : (n : ℕ) (f : ℕ → A) (j : ℕ) (z : A) → j < n → get_or (table n f) j z ≡ f j
  unfolding table
  get_d_table zero f j z h = absurd (omega arith)
  get_d_table (suc n) f zero z h = refl
  get_d_table (suc n) f (suc j) z h = get_d_table n (λ k. f (suc k)) j z (omega arith)

  -- one element more
  pub table_more : (n : ℕ) (f : ℕ → A) → table n f ++ (f n ∷ []) ≡ table (n + 1) f
  unfolding table
  table_more zero f = refl
  table_more (suc n) f = rw add-one (ap (λ (x : List A). f zero ∷ x) (table_more n (λ k. f (suc k)) ∙ ap (λ (m : ℕ). table m (λ k. f (suc k))) (add-one n)))

  pub joined_more : (n : ℕ) (f : ℕ → List A) → joined n f ++ f n ≡ joined (n + 1) f
  unfolding joined
  joined_more n f = rw add-one

  pub length_joined : (w n : ℕ) (f : ℕ → List A) → ((k : ℕ) → length (f k) ≡ w) → length (joined n f) ≡ n * w
  unfolding joined
  length_joined w zero f h = omega arith
  length_joined w (suc n) f h = rw (length-append, suc-mul, h n) (ap (λ (m : ℕ). m + w) (length_joined w n f h))

  -- ---- a loop that stores f 0, f 1, .. from `to` on: after k turns

  pub record Tabling (d₀ : List A) (to n : ℕ) (f : ℕ → A) (d : List A) (k : ℕ) : Type ℓ where
    pub count : k ≤ n
    pub size : length d ≡ length d₀
    pub stored : d ≡ put d₀ to (table k f)

  pub table_begin : (d : List A) (to n : ℕ) (f : ℕ → A) → to ≤ length d → Tabling d to n f d 0
  unfolding table part
  table_begin d to n f h = record { count = omega arith; size = refl; stored = sym (put_part 0 to d (omega arith)) }

  module _ {d₀ : List A} {to n : ℕ} {f : ℕ → A} {d : List A} {k : ℕ} (p : Tabling d₀ to n f d k) where
    pub table_step : {v : A} → k < n → to + n ≤ length d₀ → v ≡ f k → Tabling d₀ to n f (set d (to + k) v) (k + 1)
    table_step {v} h fits e =
        let long : length (table k f) ≡ k = length_table k f in
        let there : to + k < length d = omega (arith, p.size) in
        let room : to + length (table k f) + 1 ≤ length d₀ = omega arith in
        record {
          count = omega arith;
          size = simp length-set p.size;
          stored = ap (set d (to + k)) e
              ∙ put_one d (to + k) (f k) there
              ∙ (λ m. put (p.stored m) (to + sym long m) (f k ∷ []))
              ∙ put_put d₀ to (table k f) (f k ∷ []) room
              ∙ ap (put d₀ to) (table_more k f);
        }

    pub table_end : n ≤ k → d ≡ put d₀ to (table n f)
    table_end h =
        let e : k ≡ n = omega (arith, p.count) in
        p.stored ∙ ap (λ (m : ℕ). put d₀ to (table m f)) e

  -- ---- a loop that puts rows f 0, f 1, .., each w long, from `to` on: after k turns

  pub record Joining (d₀ : List A) (to n w : ℕ) (f : ℕ → List A) (d : List A) (k : ℕ) : Type ℓ where
    pub count : k ≤ n
    pub size : length d ≡ length d₀
    pub stored : d ≡ put d₀ to (joined k f)

  pub join_begin : (d : List A) (to n w : ℕ) (f : ℕ → List A) → to ≤ length d → Joining d to n w f d 0
  unfolding joined part
  join_begin d to n w f h = record { count = omega arith; size = refl; stored = sym (put_part 0 to d (omega arith)) }

  module _ {d₀ : List A} {to n w : ℕ} {f : ℕ → List A} {d : List A} {k : ℕ} (p : Joining d₀ to n w f d k)
      (wide : (i : ℕ) → length (f i) ≡ w) where
    -- row k is inside
    pub join_room : k < n → to + n * w ≤ length d₀ → to + k * w + w ≤ length d
    join_room h fits = rw p.size (omega (arith, row_end to w k n h))

    pub join_step : {u : List A} → k < n → to + n * w ≤ length d₀ → u ≡ put d (to + k * w) (f k) → Joining d₀ to n w f u (k + 1)
    join_step {u} h fits e =
        let long : length (joined k f) ≡ k * w = length_joined w k f wide in
        let inside : to + k * w + length (f k) ≤ length d₀ = rw (wide k) (omega (arith, row_end to w k n h)) in
        let inside' : to + k * w + length (f k) ≤ length d = rw p.size inside in
        record {
          count = omega arith;
          size = ap length e ∙ length_put d (to + k * w) (f k) inside' ∙ p.size;
          stored = put_more d₀ to (k * w) (joined k f) (f k) long inside p.stored e ∙ ap (put d₀ to) (joined_more k f);
        }

    pub join_end : n ≤ k → d ≡ put d₀ to (joined n f)
    join_end h =
        let e : k ≡ n = omega (arith, p.count) in
        p.stored ∙ ap (λ (m : ℕ). put d₀ to (joined m f)) e
