-- A flush of four turns or more: after four turns every slot is empty, and each further turn only counts. Assumes nothing.
use Rattle.std.proofs.Common.{◌≡◌, ℕ, zero, suc, ◌+◌, ◌-◌, ◌%◌, ◌^◌, ◌<◌, ◌≤◌, Bool, false, List, [], ◌∷◌, map, length, get_or, set, replicate, sym, refl, ap, ◌∙◌, arith}
use native.Mathlib.Nat.{mod-add-mod}
use lib.Seq.{set-get_or}
use Rattle.voice.specs.declared.queue.Queue.{Queue}
use Rattle.voice.specs.Queue.{no_buffer, next_slot}
use Rattle.voice.specs.Prepare.{settled, flush_slot, flushed}
use Rattle.voice.specs.Slots.{Four, four, is_four}
use Rattle.voice.specs.Flush.{emptied}

-- ---- four slots, one a turn

module _ {A : Type 0} (f : A → A) (d : A) where
  -- f done to slot k
  abbrev done_at : List A → ℕ → List A
  done_at l k = set l k (f (get_or l k d))

  -- four turns from any slot on reach every slot
  done_four : {l : List A} → Four l → (k : ℕ) → k < 4
      → done_at (done_at (done_at (done_at l k) (next_slot k)) (next_slot (next_slot k))) (next_slot (next_slot (next_slot k))) ≡ map f l
  done_four (four a b c e) zero h = refl
  done_four (four a b c e) (suc zero) h = refl
  done_four (four a b c e) (suc (suc zero)) h = refl
  done_four (four a b c e) (suc (suc (suc zero))) h = refl
  done_four (four a b c e) (suc (suc (suc (suc k)))) h = absurd (omega arith)

  -- where f done twice is f done once
  module _ (twice : (a : A) → f (f a) ≡ f a) (none : f d ≡ d) where
    done_there : (l : List A) (k : ℕ) → f (get_or (map f l) k d) ≡ get_or (map f l) k d
    done_there [] k = none
    done_there (a ∷ l) zero = twice a
    done_there (a ∷ l) (suc k) = done_there l k

    -- a turn after every slot was reached
    done_again : (l : List A) (k : ℕ) → done_at (map f l) k ≡ map f l
    done_again l k = ap (set (map f l) k) (done_there l k) ∙ set-get_or (map f l) k d

-- a slot that is valid no more
abbrev invalid : Bool → Bool
invalid v = false

none_valid : {vs : List Bool} → Four vs → map invalid vs ≡ replicate 4 false
none_valid (four a b c d) = refl

-- ---- numbers that go round

-- a number advanced by four, then by the rest of a count
advanced : (m x count : ℕ) {y : ℕ} → 4 ≤ count → y ≡ (x + 4) % m → (y + (count - 4)) % m ≡ (x + count) % m
advanced m x count l e =
    let whole : x + 4 + (count - 4) ≡ x + count = omega arith in
    ap (λ (k : ℕ). (k + (count - 4)) % m) e ∙ mod-add-mod (x + 4) m (count - 4) ∙ ap (λ (k : ℕ). k % m) whole

-- 4 divides 2^32
round_4 : (y : ℕ) {i : ℕ} → i ≡ y % 2 ^ 32 → i % 4 ≡ y % 4
round_4 y e = rw e (omega arith)

-- ---- the walk

module _ (q : Queue) where
  -- one turn more
  emptied_turn : (n slot : ℕ) → flush_slot (emptied n q) slot ≡ emptied (suc n) q
  unfolding flush_slot emptied
  emptied_turn n slot =
      let i : ((q.index + n) % 4 + 1) % 4 ≡ (q.index + suc n) % 4 = omega arith in
      let c : ((q.consumed + n) % 2 ^ 32 + 1) % 2 ^ 32 ≡ (q.consumed + suc n) % 2 ^ 32 = omega arith in
      λ j. record {
        buffers = done_again settled no_buffer (λ b. refl) refl q.buffers slot j;
        valid = done_again invalid false (λ v. refl) refl (replicate 4 false) slot j;
        index = i j;
        consumed = c j;
        offset = q.offset;
        played = q.played;
        loops = q.loops;
      }

  -- m turns more
  emptied_turns : (m n slot : ℕ) → flushed m slot (emptied n q) ≡ emptied (n + m) q
  unfolding flushed
  emptied_turns zero n slot = let e : n ≡ n + 0 = omega arith in ap (λ (k : ℕ). emptied k q) e
  emptied_turns (suc m) n slot =
      let e : suc n + m ≡ n + suc m = omega arith in
      ap (flushed m (next_slot slot)) (emptied_turn n slot)
      ∙ emptied_turns m (suc n) (next_slot slot)
      ∙ ap (λ (k : ℕ). emptied k q) e

  module _ (lb : length q.buffers ≡ 4) (lv : length q.valid ≡ 4) where
    -- the first four turns
    flushed_four : (slot : ℕ) → slot < 4 → flushed 4 slot q ≡ emptied 4 q
    unfolding flushed flush_slot emptied
    flushed_four slot h =
        let vs = is_four q.valid lv in
        let i : ((((q.index + 1) % 4 + 1) % 4 + 1) % 4 + 1) % 4 ≡ (q.index + 4) % 4 = omega arith in
        let c : ((((q.consumed + 1) % 2 ^ 32 + 1) % 2 ^ 32 + 1) % 2 ^ 32 + 1) % 2 ^ 32 ≡ (q.consumed + 4) % 2 ^ 32 = omega arith in
        λ j. record {
          buffers = done_four settled no_buffer (is_four q.buffers lb) slot h j;
          valid = (done_four invalid false vs slot h ∙ none_valid vs) j;
          index = i j;
          consumed = c j;
          offset = q.offset;
          played = q.played;
          loops = q.loops;
        }

    four_and : (m slot : ℕ) → slot < 4 → flushed (suc (suc (suc (suc m)))) slot q ≡ emptied (4 + m) q
    unfolding flushed
    four_and m slot h =
        let after = next_slot (next_slot (next_slot (next_slot slot))) in
        ap (flushed m after) (flushed_four slot h) ∙ emptied_turns m 4 after

    -- a walk of four turns or more, without its turns
    pub flushed_long : (n slot : ℕ) → slot < 4 → 4 ≤ n → flushed n slot q ≡ emptied n q
    flushed_long n slot h l =
        let e : n ≡ suc (suc (suc (suc (n - 4)))) = omega arith in
        let f : 4 + (n - 4) ≡ n = omega arith in
        ap (λ (k : ℕ). flushed k slot q) e ∙ four_and (n - 4) slot h ∙ ap (λ (k : ℕ). emptied k q) f

    -- four turns, and the rest of the advance worked out
    pub flush_rest : (count slot : ℕ) → slot < 4 → 4 ≤ count → {w : Queue} {i n : ℕ} → w ≡ flushed 4 slot q
        → i ≡ (w.index + (count - 4)) % 2 ^ 32 → n ≡ (w.consumed + (count - 4)) % 2 ^ 32
        → record {
          buffers = w.buffers;
          valid = w.valid;
          index = i % 4;
          consumed = n;
          offset = w.offset;
          played = w.played;
          loops = w.loops;
        } ≡ flushed count slot q
    unfolding emptied
    flush_rest count slot h l {w} {i} {n} ew ei en =
        let e : w ≡ emptied 4 q = ew ∙ flushed_four slot h in
        let index = round_4 (w.index + (count - 4)) ei ∙ advanced 4 q.index count l (ap (λ (u : Queue). u.index) e) in
        let consumed = en ∙ advanced (2 ^ 32) q.consumed count l (ap (λ (u : Queue). u.consumed) e) in
        (λ j. record {
          buffers = (e j).buffers;
          valid = (e j).valid;
          index = index j;
          consumed = consumed j;
          offset = (e j).offset;
          played = (e j).played;
          loops = (e j).loops;
        })
        ∙ sym (flushed_long count slot h l)
