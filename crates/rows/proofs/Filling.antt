-- A list that a loop fills from the front: after k turns it has the first k elements of a table. Assumes nothing.
use mathlib.Core.Path.{◌≡◌, ◌∙◌}
use mathlib.Core.List.{List}
use Prim.Native.Nat.{ℕ, ◌+◌, ◌≤◌, ◌<◌}
use native.Mathlib.Nat.{zero-add}
use native.Mathlib.Omega.{arith}
use lib.ListN.{length, set}
use Rattle.rows.specs.Rows.{put_all}
use Rattle.rows.specs.Tables.{table, length_table, Tabling, table_begin, table_step, table_end}

module _ {ℓ} {A : Type ℓ} where
  abbrev pub Filling : List A → ℕ → (ℕ → A) → List A → ℕ → Type ℓ
  Filling d₀ n f d k = Tabling d₀ 0 n f d k

  pub fill_begin : (d : List A) (n : ℕ) (f : ℕ → A) → Filling d n f d 0
  fill_begin d n f = table_begin d 0 n f (omega arith)

  module _ {d₀ : List A} {n : ℕ} {f : ℕ → A} {d : List A} {k : ℕ} (p : Filling d₀ n f d k) (l : length d₀ ≡ n) where
    pub fill_more : {v : A} → k < n → v ≡ f k → Filling d₀ n f (set d k v) (k + 1)
    fill_more h e = rw (zero-add k) at (table_step p h (omega arith) e)

    pub fill_end : n ≤ k → d ≡ table n f
    fill_end h = table_end p h ∙ put_all d₀ (table n f) (length_table n f ∙ omega arith)
