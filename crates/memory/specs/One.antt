-- Memory that is one list of bytes with a base address, as mem.rs has it: a read succeeds if it is wholly inside, or takes no byte.
use Rattle.std.specs.Prelude.{ℕ, ◌+◌, ◌-◌, Bool, cond, ◌&&◌, ◌||◌, List, [], leb, eqb, length, take, drop}

-- decided by base, size, address and length alone
unfoldable pub readable_one : ℕ → ℕ → ℕ → ℕ → Bool
readable_one base size addr len = eqb len 0 || (leb base addr && leb (addr + len) (base + size))

-- the bytes that a read gives; none where it fails
unfoldable pub read_one : ℕ → List ℕ → ℕ → ℕ → List ℕ
unfolding readable_one
read_one base m addr len = cond (readable_one base (length m) addr len) (take len (drop (addr - base) m)) []
