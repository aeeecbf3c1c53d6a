-- The lengths that a voice's sends keep. Assumes nothing.
use Rattle.std.specs.Prelude.{◌≡◌, refl, Bool, true, false, cond, ◌&&◌, List, ℕ, ◌*◌, ◌%◌, ◌≤◌, ◌<◌, eqb, length, get_or, Float}
use Rattle.std.proofs.Common.{sym, ◌∙◌, arith}
use Rattle.std.proofs.Math.Dec.{ltb}
use Rattle.sends.specs.Sends.{length_spread}
use Rattle.desk_rows.specs.DeskRows.{configured_of, destination_mix, mix_offset, mix_buffers, list_length, list_entry}
use Rattle.voice_sends.specs.Sending.{Ids, Passing, passing, sent, mix_sends, to_mix, destination_sent, entry_sent, list_sent, splitter_sends, by_splitter, Sent, with_resources, with_destinations, sends_of}
use Rattle.voice_sends.specs.Laws.{taken_keeps, and_left, configured_inside}
use Rattle.rows.specs.Loops.{up_to_keeps}

pub record Sizes (nb ng : ℕ) (st : Passing) : Type 0 where
  pub buffers : length st.buffers ≡ nb
  pub gains : length st.gains ≡ ng

-- what a step that may be left out keeps
cond_keeps : {nb ng : ℕ} (b : Bool) {x y : Passing} → (b ≡ true → Sizes nb ng x) → Sizes nb ng y → Sizes nb ng (cond b x y)
cond_keeps true h g = h refl
cond_keeps false h g = g

module _ {nb rows : ℕ} (n : ℕ) (out : List Float) where
  pub sent_keeps : (offset count c id : ℕ) (st : Passing) → id < rows → Sizes nb (rows * 48) st → Sizes nb (rows * 48) (sent n out offset count c id st)
  unfolding sent
  sent_keeps offset count c id st h p = record {
    buffers = length_spread _ _ offset n _ count st.buffers ∙ p.buffers;
    gains = taken_keeps id st.gains h p.gains;
  }

-- ---- to one mix

module _ {nb nc : ℕ} {ids : List ℕ} (p : Ids nc ids) (n : ℕ) (out : List Float) (channels : ℕ) (few : channels ≤ 6) where
  pub mix_keeps : (offset count : ℕ) (st : Passing) → Sizes nb (nc * 48) st → Sizes nb (nc * 48) (mix_sends n out channels ids offset count st)
  unfolding mix_sends
  mix_keeps offset count st =
      up_to_keeps (Sizes nb (nc * 48)) (λ c. sent n out offset count c (get_or ids c 0)) channels
      (λ c x h. sent_keeps n out offset count c (get_or ids c 0) x (p.each c (omega arith))) channels st (omega arith)

  pub to_mix_keeps : (mixes : List ℕ) (nm m : ℕ) (st : Passing) → Sizes nb (nc * 48) st → Sizes nb (nc * 48) (to_mix n out channels ids mixes nm m st)
  unfolding to_mix
  to_mix_keeps mixes nm m st q = cond_keeps (ltb m nm) (λ _. mix_keeps (mix_offset mixes m) (mix_buffers mixes m) st q) q

-- ---- by a splitter

module _ {nb : ℕ} (n : ℕ) (out : List Float) (channels : ℕ) (mixes : List ℕ) (nm : ℕ) (lists : List ℕ) (ns nd : ℕ) where
  pub destination_keeps : (c d : ℕ) (st : Passing) → Sizes nb (nd * 48) st → Sizes nb (nd * 48) (destination_sent n out channels mixes nm lists ns nd c d st)
  unfolding destination_sent
  destination_keeps c d st q =
      cond_keeps (configured_of ns nd lists d && ltb (destination_mix ns lists d) nm)
      (λ e. sent_keeps n out _ _ c d st (configured_inside ns nd lists d (and_left (configured_of ns nd lists d) _ e)) q) q

  pub entry_keeps : (s c k : ℕ) (st : Passing) → Sizes nb (nd * 48) st → Sizes nb (nd * 48) (entry_sent n out channels mixes nm lists ns nd s c k st)
  unfolding entry_sent
  entry_keeps s c k st q = cond_keeps (eqb (k % channels) c) (λ _. destination_keeps c (list_entry lists s k) st q) q

  pub list_keeps : (s c : ℕ) (st : Passing) → Sizes nb (nd * 48) st → Sizes nb (nd * 48) (list_sent n out channels mixes nm lists ns nd s c st)
  unfolding list_sent
  list_keeps s c st =
      up_to_keeps (Sizes nb (nd * 48)) (entry_sent n out channels mixes nm lists ns nd s c) (list_length lists s)
      (λ k x _. entry_keeps s c k x) (list_length lists s) st (omega arith)

  pub splitter_keeps : (s : ℕ) (st : Passing) → Sizes nb (nd * 48) st → Sizes nb (nd * 48) (splitter_sends n out channels mixes nm lists ns nd s st)
  unfolding splitter_sends
  splitter_keeps s st =
      up_to_keeps (Sizes nb (nd * 48)) (list_sent n out channels mixes nm lists ns nd s) channels (λ c x _. list_keeps s c x) channels st (omega arith)

  pub by_splitter_keeps : (s : ℕ) (st : Passing) → Sizes nb (nd * 48) st → Sizes nb (nd * 48) (by_splitter n out channels mixes nm lists ns nd s st)
  unfolding by_splitter
  by_splitter_keeps s st q = cond_keeps (ltb s ns) (λ _. splitter_keeps s st q) q

-- ---- all sends of a voice keep the lengths of the three lists

pub record SameSizes (a b : Sent) : Type 0 where
  pub buffers : length a.buffers ≡ length b.buffers
  pub resources : length a.resources ≡ length b.resources
  pub destinations : length a.destinations ≡ length b.destinations

pub sends_keep : {nc : ℕ} {ids : List ℕ} → Ids nc ids → (n : ℕ) (out : List Float) (channels mix splitter : ℕ) (mixes : List ℕ) (nm : ℕ) (lists : List ℕ) (ns nd : ℕ) (st : Sent)
    → channels ≤ 6 → length st.resources ≡ nc * 48 → length st.destinations ≡ nd * 48
    → SameSizes (sends_of n out channels ids mix splitter mixes nm lists ns nd st) st
unfolding sends_of
sends_keep {nc} {ids} p n out channels mix splitter mixes nm lists ns nd st few er ed = go (eqb mix 0x7fffffff)
  where
    by_lists : Sizes (length st.buffers) (nd * 48) (by_splitter n out channels mixes nm lists ns nd splitter (passing st.buffers st.destinations))
    by_lists = by_splitter_keeps n out channels mixes nm lists ns nd splitter (passing st.buffers st.destinations) (record { buffers = refl; gains = ed })

    by_ids : Sizes (length st.buffers) (nc * 48) (to_mix n out channels ids mixes nm mix (passing st.buffers st.resources))
    by_ids = to_mix_keeps p n out channels few mixes nm mix (passing st.buffers st.resources) (record { buffers = refl; gains = er })

    go : (b : Bool)
        → SameSizes (cond b (with_destinations st (by_splitter n out channels mixes nm lists ns nd splitter (passing st.buffers st.destinations)))
        (with_resources st (to_mix n out channels ids mixes nm mix (passing st.buffers st.resources)))) st
    go true = record { buffers = by_lists.buffers; resources = refl; destinations = by_lists.gains ∙ sym ed }
    go false = record { buffers = by_ids.buffers; resources = by_ids.gains ∙ sym er; destinations = refl }
