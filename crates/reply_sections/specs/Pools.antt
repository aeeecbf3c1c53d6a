-- The reply's memory pools: for each a state and zeros. Assumes nothing.
use Rattle.std.specs.Prelude.{◌≡◌, cond, List, ◌++◌, ℕ, ◌+◌, ◌*◌, ◌≤◌, ◌<◌, eqb, ltb, length}
use Rattle.std.proofs.Common.{lt-ltb, le-ltb, length-append}
use Rattle.rows.specs.Tables.{joined, length_joined}
use Rattle.fields.specs.Fields.{field_at, bytes_of}
use Rattle.fields.specs.Writes.{length_bytes}
use Rattle.reply_sections.specs.Bytes.{zeros, length_zeros}

-- a request to attach (4) or detach (2) is granted (5, 3); any other state stays
unfoldable pub granted : ℕ → ℕ
granted state = cond (eqb state 4) 5 (cond (eqb state 2) 3 state)

-- pool i's state in the input, 0 where its record begins past the pools' section; the sizes are those of behaviour and pools
unfoldable pub pool_word : ℕ → ℕ → List ℕ → ℕ → ℕ
pool_word behavior size input i = cond (ltb (i * 0x20) size) (field_at 4 input (0x40 + behavior + i * 0x20 + 0x10)) 0

-- pool i in the reply
unfoldable pub pool_row : ℕ → ℕ → List ℕ → ℕ → List ℕ
pool_row behavior size input i = bytes_of 4 (granted (pool_word behavior size input i)) ++ zeros 12

-- n pools
unfoldable pub pools_bytes : ℕ → ℕ → ℕ → List ℕ → List ℕ
pools_bytes n behavior size input = joined n (pool_row behavior size input)

-- ---- laws

module _ (behavior size : ℕ) (input : List ℕ) where
  pub pool_in : (i : ℕ) → i * 0x20 < size → pool_word behavior size input i ≡ field_at 4 input (0x40 + behavior + i * 0x20 + 0x10)
  unfolding pool_word
  pool_in i h = simp (lt-ltb _ _ h)

  pub pool_out : (i : ℕ) → size ≤ i * 0x20 → pool_word behavior size input i ≡ 0
  unfolding pool_word
  pool_out i h = simp (le-ltb _ _ h)

  pub length_pool : (i : ℕ) → length (pool_row behavior size input i) ≡ 0x10
  unfolding pool_row
  length_pool i = rw (length-append, length_bytes, length_zeros)

  pub length_pools : (n : ℕ) → length (pools_bytes n behavior size input) ≡ n * 0x10
  unfolding pools_bytes
  length_pools n = length_joined 0x10 n _ length_pool
