-- The walks over a queue's slots, one slot a turn: the flush walk, and the four turns of a promote and of a stop. Assumes nothing.
use Rattle.std.specs.Prelude.{◌≡◌, ℕ, zero, suc, ◌+◌, ◌-◌, ◌%◌, ◌^◌, ◌<◌, ◌≤◌, Bool, true, false, cond, ◌||◌, List, [], ◌∷◌, length, get_or, set, refl}
use Rattle.std.proofs.Common.{ap, sym, ◌∙◌, add-one, arith}
use Rattle.std.proofs.lemmas.List.{set-get_or}
use Rattle.voice.specs.declared.wave.WaveBuffer.{WaveBuffer}
use Rattle.voice.specs.declared.queue.Queue.{Queue}
use Rattle.voice.specs.Queue.{no_buffer, buffer_at, next_slot, more32}
use Rattle.voice.specs.Prepare.{settled, flush_slot, flushed, promoted, any_of, marks, stopped}

-- ---- the flush walk

pub flush_made : (q : Queue) (slot : ℕ) {i n : ℕ} → i ≡ next_slot q.index → n ≡ more32 q.consumed
    → record {
      buffers = set q.buffers slot (settled (buffer_at q slot));
      valid = set q.valid slot false;
      index = i;
      consumed = n;
      offset = q.offset;
      played = q.played;
      loops = q.loops;
    } ≡ flush_slot q slot
unfolding flush_slot
flush_made q slot ei en = λ j. record {
  buffers = set q.buffers slot (settled (buffer_at q slot));
  valid = set q.valid slot false;
  index = ei j;
  consumed = en j;
  offset = q.offset;
  played = q.played;
  loops = q.loops;
}

flush_index : (q : Queue) (slot : ℕ) → (flush_slot q slot).index ≡ next_slot q.index
unfolding flush_slot
flush_index q slot = refl

-- where a turn begins: what is left to do, done, is the whole walk
pub record Flushing (count base : ℕ) (q : Queue) (turn slot : ℕ) (w : Queue) : Type 0 where
  pub below : turn ≤ count
  pub left : flushed (count - turn) slot w ≡ flushed count base q
  pub inside : slot < 4

pub flush_begin : (count base : ℕ) (q : Queue) → base < 4 → Flushing count base q 0 base q
flush_begin count base q hb =
    let e : count - 0 ≡ count = omega arith in
    record { below = omega arith; left = ap (λ (n : ℕ). flushed n base q) e; inside = hb }

flushed_more : (n m slot : ℕ) (w : Queue) → n ≡ suc m → flushed n slot w ≡ flushed m (next_slot slot) (flush_slot w slot)
unfolding flushed
flushed_more n m slot w e = rw e

pub flush_more : (count base : ℕ) (q : Queue) (turn slot : ℕ) {w w' : Queue} {slot' : ℕ} → turn < count → Flushing count base q turn slot w
    → w' ≡ flush_slot w slot → slot' ≡ next_slot slot → Flushing count base q (turn + 1) slot' w'
flush_more count base q turn slot {w} h r ew es = record {
  below = omega arith;
  left = (λ i. flushed (count - (turn + 1)) (es i) (ew i)) ∙ sym (flushed_more (count - turn) (count - (turn + 1)) slot w (omega arith)) ∙ r.left;
  inside = rw es (omega arith);
}

flushed_none : (n slot : ℕ) (w : Queue) → n ≡ 0 → flushed n slot w ≡ w
unfolding flushed
flushed_none n slot w e = rw e

pub flush_end : (count base : ℕ) (q : Queue) (turn slot : ℕ) {w : Queue} → count ≤ turn → Flushing count base q turn slot w → w ≡ flushed count base q
flush_end count base q turn slot {w} h r = sym (flushed_none (count - turn) slot w (omega arith)) ∙ r.left

pub flushed_index : (n slot : ℕ) (q : Queue) → q.index < 4 → (flushed n slot q).index < 4
unfolding flushed
flushed_index zero slot q h = h
flushed_index (suc n) slot q h = flushed_index n (next_slot slot) (flush_slot q slot) (rw flush_index (omega arith))

-- ---- lists of four

pub data Four {ℓ} {A : Type ℓ} : List A → Type ℓ where
  four : (a b c d : A) → Four (a ∷ b ∷ c ∷ d ∷ [])

pub is_four {ℓ} : {A : Type ℓ} (l : List A) → length l ≡ 4 → Four l
is_four [] h = absurd (omega arith)
is_four (a ∷ []) h = absurd (omega arith)
is_four (a ∷ b ∷ []) h = absurd (omega arith)
is_four (a ∷ b ∷ c ∷ []) h = absurd (omega arith)
is_four (a ∷ b ∷ c ∷ d ∷ []) h = four a b c d
is_four (a ∷ b ∷ c ∷ d ∷ e ∷ l) h = absurd (omega arith)

or_false : (b : Bool) → b || false ≡ b
or_false true = refl
or_false false = refl

-- the first that is true, or the last
pub any_four : {vs : List Bool} → Four vs → {a b c : Bool} → get_or vs 0 false ≡ a → get_or vs 1 false ≡ b → get_or vs 2 false ≡ c
    → a || (b || (c || get_or vs 3 false)) ≡ any_of vs
any_four (four v₀ v₁ v₂ v₃) e₀ e₁ e₂ = λ i. sym e₀ i || (sym e₁ i || (sym e₂ i || sym (or_false v₃) i))

-- ---- promote

-- a slot's buffer settled, and valid if it was or if the buffer was pending
unfoldable pub promote_slot : Queue → ℕ → Queue
promote_slot q k = record {
  buffers = set q.buffers k (settled (buffer_at q k));
  valid = set q.valid k ((buffer_at q k).pending || get_or q.valid k false);
  index = q.index;
  consumed = q.consumed;
  offset = q.offset;
  played = q.played;
  loops = q.loops;
}

pub promote_pending : (q : Queue) (k : ℕ) → (buffer_at q k).pending ≡ true
    → record {
      buffers = set q.buffers k (settled (buffer_at q k));
      valid = set q.valid k true;
      index = q.index;
      consumed = q.consumed;
      offset = q.offset;
      played = q.played;
      loops = q.loops;
    } ≡ promote_slot q k
unfolding promote_slot
promote_pending q k h = λ i. record {
  buffers = set q.buffers k (settled (buffer_at q k));
  valid = set q.valid k (sym h i || get_or q.valid k false);
  index = q.index;
  consumed = q.consumed;
  offset = q.offset;
  played = q.played;
  loops = q.loops;
}

settled_same : (b : WaveBuffer) → b.pending ≡ false → b ≡ settled b
settled_same b h = λ i. record {
  addr = b.addr;
  size = b.size;
  start = b.start;
  end = b.end;
  looping = b.looping;
  end_of_stream = b.end_of_stream;
  loop_count = b.loop_count;
  context = b.context;
  loop_start = b.loop_start;
  loop_end = b.loop_end;
  pending = h i;
}

pub promote_settled : (q : Queue) (k : ℕ) → (buffer_at q k).pending ≡ false → q ≡ promote_slot q k
unfolding promote_slot
promote_settled q k h = λ i. record {
  buffers = (sym (set-get_or q.buffers k no_buffer) ∙ ap (set q.buffers k) (settled_same (buffer_at q k) h)) i;
  valid = (sym (set-get_or q.valid k false) ∙ ap (λ (p : Bool). set q.valid k (p || get_or q.valid k false)) (sym h)) i;
  index = q.index;
  consumed = q.consumed;
  offset = q.offset;
  played = q.played;
  loops = q.loops;
}

-- the slots before k promoted
unfoldable pub promote_to : ℕ → Queue → Queue
promote_to zero q = q
promote_to (suc k) q = promote_slot (promote_to k q) k

pub promote_begin : (q : Queue) → q ≡ promote_to 0 q
unfolding promote_to
promote_begin q = refl

pub promote_more : (k : ℕ) (q : Queue) {w w' : Queue} → w ≡ promote_to k q → w' ≡ promote_slot w k → w' ≡ promote_to (k + 1) q
unfolding promote_to
promote_more k q e e' = rw add-one (e' ∙ ap (λ (x : Queue). promote_slot x k) e)

promote_four : {bs : List WaveBuffer} {vs : List Bool} → Four bs → Four vs → (i n o p l : ℕ)
    → promote_to 4 (record { buffers = bs; valid = vs; index = i; consumed = n; offset = o; played = p; loops = l })
    ≡ promoted (record { buffers = bs; valid = vs; index = i; consumed = n; offset = o; played = p; loops = l })
unfolding promote_to promote_slot promoted
promote_four (four b₀ b₁ b₂ b₃) (four v₀ v₁ v₂ v₃) i n o p l = refl

pub promote_end : (k : ℕ) (q : Queue) {w : Queue} → k ≡ 4 → length q.buffers ≡ 4 → length q.valid ≡ 4 → w ≡ promote_to k q → w ≡ promoted q
promote_end k q h lb lv e =
    e
    ∙ ap (λ (m : ℕ). promote_to m q) h
    ∙ promote_four (is_four q.buffers lb) (is_four q.valid lv) q.index q.consumed q.offset q.played q.loops

-- ---- stop

-- a slot's buffer dropped, and counted as consumed if it was valid
unfoldable pub stop_slot : Queue → ℕ → Queue
stop_slot q k = record {
  buffers = set q.buffers k (settled (buffer_at q k));
  valid = set q.valid k false;
  index = cond (get_or q.valid k false) (next_slot q.index) q.index;
  consumed = cond (get_or q.valid k false) (more32 q.consumed) q.consumed;
  offset = q.offset;
  played = q.played;
  loops = q.loops;
}

pub stop_made : (q : Queue) (k : ℕ) {t : Bool} {i n : ℕ} → get_or q.valid k false ≡ t
    → i ≡ cond t (next_slot q.index) q.index → n ≡ cond t (more32 q.consumed) q.consumed
    → record {
      buffers = set q.buffers k (settled (buffer_at q k));
      valid = set q.valid k false;
      index = i;
      consumed = n;
      offset = q.offset;
      played = q.played;
      loops = q.loops;
    } ≡ stop_slot q k
unfolding stop_slot
stop_made q k et ei en = λ j. record {
  buffers = set q.buffers k (settled (buffer_at q k));
  valid = set q.valid k false;
  index = (ei ∙ ap (λ (b : Bool). cond b (next_slot q.index) q.index) (sym et)) j;
  consumed = (en ∙ ap (λ (b : Bool). cond b (more32 q.consumed) q.consumed) (sym et)) j;
  offset = q.offset;
  played = q.played;
  loops = q.loops;
}

-- the slots before k stopped
unfoldable pub stop_to : ℕ → Queue → Queue
stop_to zero q = q
stop_to (suc k) q = stop_slot (stop_to k q) k

cond_below : (b : Bool) (i : ℕ) → i < 4 → cond b (next_slot i) i < 4
cond_below true i h = omega arith
cond_below false i h = h

stop_index : (q : Queue) (k : ℕ) → q.index < 4 → (stop_slot q k).index < 4
unfolding stop_slot
stop_index q k h = cond_below (get_or q.valid k false) q.index h

-- where a turn begins
pub record Stopping (q : Queue) (k : ℕ) (w : Queue) : Type 0 where
  pub below : k ≤ 4
  pub slots : w ≡ stop_to k q
  pub index : w.index < 4

pub stop_begin : (q : Queue) → q.index < 4 → Stopping q 0 q
unfolding stop_to
stop_begin q h = record { below = omega arith; slots = refl; index = h }

pub stop_more : (q : Queue) (k : ℕ) {w w' : Queue} → k < 4 → Stopping q k w → w' ≡ stop_slot w k → Stopping q (k + 1) w'
unfolding stop_to
stop_more q k {w} h r e = record {
  below = omega arith;
  slots = rw add-one (e ∙ ap (λ (x : Queue). stop_slot x k) r.slots);
  index = rw e (stop_index w k r.index);
}

-- a number stepped once for each that is true
abbrev stepped : (ℕ → ℕ) → ℕ → List Bool → ℕ
stepped f i [] = i
stepped f i (v ∷ vs) = stepped f (cond v (f i) i) vs

index_stepped : (i : ℕ) (vs : List Bool) → i < 4 → stepped next_slot i vs ≡ (i + marks vs) % 4
index_stepped i [] h = omega arith
index_stepped i (false ∷ vs) h = index_stepped i vs h
index_stepped i (true ∷ vs) h = index_stepped (next_slot i) vs (omega arith) ∙ omega arith

consumed_stepped : (n : ℕ) (vs : List Bool) → n < 4294967296 → stepped more32 n vs ≡ (n + marks vs) % 2 ^ 32
consumed_stepped n [] h = omega arith
consumed_stepped n (false ∷ vs) h = consumed_stepped n vs h
consumed_stepped n (true ∷ vs) h = consumed_stepped (more32 n) vs (omega arith) ∙ omega arith

-- nothing is played of the next
abbrev pub from_zero : Queue → Queue
from_zero q = record { buffers = q.buffers; valid = q.valid; index = q.index; consumed = q.consumed; offset = 0; played = 0; loops = 0 }

stop_four : {bs : List WaveBuffer} {vs : List Bool} → Four bs → Four vs → (i n o p l : ℕ) → i < 4 → n < 4294967296
    → from_zero (stop_to 4 (record { buffers = bs; valid = vs; index = i; consumed = n; offset = o; played = p; loops = l }))
    ≡ stopped (record { buffers = bs; valid = vs; index = i; consumed = n; offset = o; played = p; loops = l })
unfolding stop_to stop_slot stopped
stop_four (four b₀ b₁ b₂ b₃) (four v₀ v₁ v₂ v₃) i n o p l hi hn = λ j. record {
  buffers = settled b₀ ∷ settled b₁ ∷ settled b₂ ∷ settled b₃ ∷ [];
  valid = false ∷ false ∷ false ∷ false ∷ [];
  index = index_stepped i (v₀ ∷ v₁ ∷ v₂ ∷ v₃ ∷ []) hi j;
  consumed = consumed_stepped n (v₀ ∷ v₁ ∷ v₂ ∷ v₃ ∷ []) hn j;
  offset = 0;
  played = 0;
  loops = 0;
}

pub stop_end : (q : Queue) (k : ℕ) {w : Queue} → 4 ≤ k → length q.buffers ≡ 4 → length q.valid ≡ 4 → q.index < 4 → q.consumed < 4294967296
    → Stopping q k w → from_zero w ≡ stopped q
stop_end q k h lb lv hi hn r =
    let e : k ≡ 4 = omega arith in
    ap from_zero (r.slots ∙ ap (λ (m : ℕ). stop_to m q) e)
    ∙ stop_four (is_four q.buffers lb) (is_four q.valid lv) q.index q.consumed q.offset q.played q.loops hi hn
