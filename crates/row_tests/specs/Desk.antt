-- When the rows of mixes, sinks, splitters and destinations are whole. Assumes nothing.
use Rattle.std.specs.Prelude.{◌≡◌, refl, Bool, true, ◌&&◌, List, [], ◌∷◌, ℕ, ◌+◌, ◌*◌, ◌≤◌, ◌<◌, eqb, length, get_or}
use Rattle.std.proofs.Common.{arith}
use Rattle.std.proofs.Math.Nat.{zero-add, add-zero}
use borrow.Author.Tests.{le-leb, eqb-true, eq-eqb}
use Rattle.desk_rows.specs.DeskRows.{mix_buffers, mix_offset, Mixes, list_length}
use Rattle.row_tests.specs.Tests.{both_left, both_right, every, every_at, all, all_at, all_each, sum, sum_below}
use Rattle.row_tests.specs.Limits.{Table, table, within, within_at, rows_within, rows_at, rows_each}

-- ---- mixes: used and buffers, and the offset

abbrev pub mix_fields : List ℕ
mix_fields = 0 ∷ 1 ∷ []

abbrev pub mix_limits : List ℕ
mix_limits = 1 ∷ 24 ∷ []

pub mix_table : Table 5 mix_fields mix_limits
unfolding all
mix_table = table 5 mix_fields mix_limits refl refl

abbrev pub mix_tests : List ℕ → ℕ → ℕ → List Bool
mix_tests mixes m offset = within mixes (m * 5) mix_fields mix_limits ∷ eqb (mix_offset mixes m) offset ∷ []

-- mix m, where the mixes before it have `offset` buffers
unfoldable pub mix_whole : List ℕ → ℕ → ℕ → Bool
mix_whole mixes m offset = every (mix_tests mixes m offset)

-- the buffers of the first m mixes
abbrev pub buffers_before : List ℕ → ℕ → ℕ
buffers_before mixes m = sum m (mix_buffers mixes)

unfoldable pub mixes_whole : ℕ → List ℕ → Bool
mixes_whole n mixes = all n (λ m. mix_whole mixes m (buffers_before mixes m))

pub record MixWhole (mixes : List ℕ) (m : ℕ) : Type 0 where
  pub used : get_or mixes (m * 5) 0 ≤ 1
  pub buffers : mix_buffers mixes m ≤ 24
  pub offset : mix_offset mixes m ≡ buffers_before mixes m

module _ (mixes : List ℕ) (m : ℕ) where
  -- at most 24 buffers, whatever the offset
  pub mix_buffers_lem : (offset : ℕ) → mix_whole mixes m offset ≡ true → mix_buffers mixes m ≤ 24
  unfolding mix_whole
  mix_buffers_lem offset h = within_at mixes (m * 5) mix_fields mix_limits (every_at (mix_tests mixes m offset) h 0) 1 (omega arith) (omega arith)

  mix_facts : mix_whole mixes m (buffers_before mixes m) ≡ true → MixWhole mixes m
  unfolding mix_whole
  mix_facts h =
      let t = every_at (mix_tests mixes m (buffers_before mixes m)) h in
      record {
        used = simp add-zero at (within_at mixes (m * 5) mix_fields mix_limits (t 0) 0 (omega arith) (omega arith));
        buffers = mix_buffers_lem (buffers_before mixes m) h;
        offset = eqb-true _ _ (t 1);
      }

  mix_is : MixWhole mixes m → mix_whole mixes m (buffers_before mixes m) ≡ true
  unfolding mix_whole within every
  mix_is w = simp (add-zero, le-leb _ _ w.used, le-leb _ _ w.buffers, eq-eqb _ _ w.offset)

module _ (n : ℕ) (mixes : List ℕ) where
  pub mixes_facts : mixes_whole n mixes ≡ true → (m : ℕ) → m < n → MixWhole mixes m
  unfolding mixes_whole
  mixes_facts h m l = mix_facts mixes m (all_at (λ m. mix_whole mixes m (buffers_before mixes m)) n h m l)

  pub mixes_are : ((m : ℕ) → m < n → MixWhole mixes m) → mixes_whole n mixes ≡ true
  unfolding mixes_whole
  mixes_are h = all_each (λ m. mix_whole mixes m (buffers_before mixes m)) n (λ m l. mix_is mixes m (h m l))

  -- what the desk asks of n mixes
  pub mixes_give : 1 ≤ n → n ≤ 32 → length mixes ≡ n * 5 → ((m : ℕ) → m < n → MixWhole mixes m) → Mixes n mixes
  mixes_give one few size h = record {
    one = one;
    few = few;
    size = size;
    buffers = λ m l. (h m l).buffers;
    offsets = λ m l. rw (h m l).offset (sum_below (mix_buffers mixes) 24 m (λ k j. (h k (omega arith)).buffers));
  }

-- ---- sinks: used, device, input count, downmix given

abbrev pub sink_fields : List ℕ
sink_fields = 0 ∷ 1 ∷ 2 ∷ 9 ∷ []

abbrev pub sink_limits : List ℕ
sink_limits = 1 ∷ 1 ∷ 6 ∷ 1 ∷ []

pub sink_table : Table 10 sink_fields sink_limits
unfolding all
sink_table = table 10 sink_fields sink_limits refl refl

unfoldable pub sinks_whole : ℕ → List ℕ → Bool
sinks_whole n sinks = rows_within sinks 0 n 10 sink_fields sink_limits

pub record SinkWhole (sinks : List ℕ) (k : ℕ) : Type 0 where
  pub used : get_or sinks (k * 10) 0 ≤ 1
  pub device : get_or sinks (k * 10 + 1) 0 ≤ 1
  pub inputs : get_or sinks (k * 10 + 2) 0 ≤ 6
  pub given : get_or sinks (k * 10 + 9) 0 ≤ 1

module _ (n : ℕ) (sinks : List ℕ) where
  pub sinks_facts : sinks_whole n sinks ≡ true → (k : ℕ) → k < n → SinkWhole sinks k
  unfolding sinks_whole
  sinks_facts h k l =
      let field = within_at sinks (k * 10) sink_fields sink_limits (rw zero-add at (rows_at sinks 0 n 10 sink_fields sink_limits h k l)) in
      record {
        used = simp add-zero at (field 0 (omega arith) (omega arith));
        device = field 1 (omega arith) (omega arith);
        inputs = field 2 (omega arith) (omega arith);
        given = field 3 (omega arith) (omega arith);
      }

  pub sinks_are : ((k : ℕ) → k < n → SinkWhole sinks k) → sinks_whole n sinks ≡ true
  unfolding sinks_whole within
  sinks_are h =
      rows_each sinks 0 n 10 sink_fields sink_limits
      (λ k l. let s = h k l in simp (zero-add, add-zero, le-leb _ _ s.used, le-leb _ _ s.device, le-leb _ _ s.inputs, le-leb _ _ s.given))

-- ---- ns splitters, each list as long as the nd destinations at most; then the destinations, used or not

unfoldable pub lists_whole : ℕ → ℕ → List ℕ → Bool
lists_whole ns nd lists = rows_within lists 0 ns 129 (0 ∷ []) (nd ∷ []) && rows_within lists (ns * 129) nd 2 (0 ∷ []) (1 ∷ [])

module _ (ns nd : ℕ) (lists : List ℕ) where
  abbrev splitters : Bool
  splitters = rows_within lists 0 ns 129 (0 ∷ []) (nd ∷ [])

  abbrev destinations : Bool
  destinations = rows_within lists (ns * 129) nd 2 (0 ∷ []) (1 ∷ [])

  pub lengths_facts : lists_whole ns nd lists ≡ true → (s : ℕ) → s < ns → list_length lists s ≤ nd
  unfolding lists_whole
  lengths_facts h s l =
      let row = rows_at lists 0 ns 129 (0 ∷ []) (nd ∷ []) (both_left splitters destinations h) s l in
      simp add-zero at (within_at lists (s * 129) (0 ∷ []) (nd ∷ []) (rw zero-add at row) 0 (omega arith) (omega arith))

  pub destinations_facts : lists_whole ns nd lists ≡ true → (d : ℕ) → d < nd → get_or lists (ns * 129 + d * 2) 0 ≤ 1
  unfolding lists_whole
  destinations_facts h d l =
      let row = rows_at lists (ns * 129) nd 2 (0 ∷ []) (1 ∷ []) (both_right splitters destinations h) d l in
      simp add-zero at (within_at lists (ns * 129 + d * 2) (0 ∷ []) (1 ∷ []) row 0 (omega arith) (omega arith))

  pub lists_are : ((s : ℕ) → s < ns → list_length lists s ≤ nd) → ((d : ℕ) → d < nd → get_or lists (ns * 129 + d * 2) 0 ≤ 1) → lists_whole ns nd lists ≡ true
  unfolding lists_whole within
  lists_are a b =
      let first = rows_each lists 0 ns 129 (0 ∷ []) (nd ∷ []) (λ s l. simp (zero-add, add-zero, le-leb _ _ (a s l))) in
      let second = rows_each lists (ns * 129) nd 2 (0 ∷ []) (1 ∷ []) (λ d l. simp (add-zero, le-leb _ _ (b d l))) in
      rw (first, second)
