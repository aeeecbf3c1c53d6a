-- What each test of a send decides. Assumes nothing.
use Rattle.std.specs.Prelude.{◌≡◌, true, false, List, ℕ, ◌%◌, ◌≤◌, ◌<◌, Float}
use Rattle.std.proofs.Common.{ap}
use borrow.Author.Tests.{lt-ltb, le-ltb, eq-eqb, ne_eqb}
use Rattle.desk_rows.specs.DeskRows.{mix_buffers, mix_offset, list_entry, destination_mix, configured_of}
use Rattle.voice_sends.specs.Sending.{Passing, passing, sent, mix_sends, to_mix, destination_sent, entry_sent, splitter_sends, by_splitter, Sent, with_resources, with_destinations, sends_of}

-- ---- to one mix

module _ (n : ℕ) (out : List Float) (channels : ℕ) (ids mixes : List ℕ) (nm m : ℕ) (st : Passing) where
  pub no_mix_lem : nm ≤ m → st ≡ to_mix n out channels ids mixes nm m st
  unfolding to_mix
  no_mix_lem h = rw (le-ltb m nm h)

  pub some_mix : m < nm → {u : Passing} → u ≡ mix_sends n out channels ids (mix_offset mixes m) (mix_buffers mixes m) st → u ≡ to_mix n out channels ids mixes nm m st
  unfolding to_mix
  some_mix h e = rw (lt-ltb m nm h) e

-- ---- by a splitter

module _ (n : ℕ) (out : List Float) (channels : ℕ) (mixes : List ℕ) (nm : ℕ) (lists : List ℕ) (ns nd : ℕ) (st : Passing) where
  module _ (c d : ℕ) where
    pub not_configured : configured_of ns nd lists d ≡ false → st ≡ destination_sent n out channels mixes nm lists ns nd c d st
    unfolding destination_sent
    not_configured h = rw h

    module _ (h : configured_of ns nd lists d ≡ true) {m : ℕ} (e : m ≡ destination_mix ns lists d) where
      pub not_its_mix : nm ≤ m → st ≡ destination_sent n out channels mixes nm lists ns nd c d st
      unfolding destination_sent
      not_its_mix g = rw (h, ← e, le-ltb m nm g)

      pub to_its_mix : m < nm → {u : Passing} → u ≡ sent n out (mix_offset mixes m) (mix_buffers mixes m) c d st → u ≡ destination_sent n out channels mixes nm lists ns nd c d st
      unfolding destination_sent
      to_its_mix g q = rw (h, ← e, lt-ltb m nm g) q

  module _ (s c k : ℕ) where
    pub not_due : (k % channels ≡ c → ⊥) → entry_sent n out channels mixes nm lists ns nd s c k st ≡ st
    unfolding entry_sent
    not_due h = rw (ne_eqb (k % channels) c h)

    pub due : k % channels ≡ c → {u : Passing} → u ≡ destination_sent n out channels mixes nm lists ns nd c (list_entry lists s k) st → u ≡ entry_sent n out channels mixes nm lists ns nd s c k st
    unfolding entry_sent
    due h e = rw (eq-eqb (k % channels) c h) e

  pub no_splitter_lem : (s : ℕ) → ns ≤ s → st ≡ by_splitter n out channels mixes nm lists ns nd s st
  unfolding by_splitter
  no_splitter_lem s h = rw (le-ltb s ns h)

  pub some_splitter : (s : ℕ) → s < ns → {u : Passing} → u ≡ splitter_sends n out channels mixes nm lists ns nd s st → u ≡ by_splitter n out channels mixes nm lists ns nd s st
  unfolding by_splitter
  some_splitter s h e = rw (lt-ltb s ns h) e

-- ---- which of the two

module _ (n : ℕ) (out : List Float) (channels : ℕ) (ids : List ℕ) (mix splitter : ℕ) (mixes : List ℕ) (nm : ℕ) (lists : List ℕ) (ns nd : ℕ) (st : Sent) where
  pub sends_by_splitter : mix ≡ 0x7fffffff → {p : Passing} → p ≡ by_splitter n out channels mixes nm lists ns nd splitter (passing st.buffers st.destinations)
      → with_destinations st p ≡ sends_of n out channels ids mix splitter mixes nm lists ns nd st
  unfolding sends_of
  sends_by_splitter h e = rw (eq-eqb mix 0x7fffffff h) (ap (with_destinations st) e)

  pub sends_to_mix : (mix ≡ 0x7fffffff → ⊥) → {p : Passing} → p ≡ to_mix n out channels ids mixes nm mix (passing st.buffers st.resources)
      → with_resources st p ≡ sends_of n out channels ids mix splitter mixes nm lists ns nd st
  unfolding sends_of
  sends_to_mix h e = rw (ne_eqb mix 0x7fffffff h) (ap (with_resources st) e)
