-- `Params` of mod.rs: as a title sends it, and as its row of ten words. Assumes nothing.
use Rattle.std.specs.Prelude.{◌≡◌, ℕ, ◌<◌, List, [], ◌∷◌, ◌++◌, length, take, slice_index, slice_index_or, refl}
use Rattle.std.proofs.Common.{arith, get_or-take}
use Rattle.rows.specs.Rows.{put, part}
use Rattle.fields.specs.Fields.{field_at}
use Rattle.params.specs.declared.params.Params.{Params}

-- the fields of the bytes that a title sends
unfoldable pub parse_of : List ℕ → Params
parse_of d = record {
  sample_rate = field_at 4 d 0x00;
  sample_count = field_at 4 d 0x04;
  mix_buffers = field_at 4 d 0x08;
  sub_mixes = field_at 4 d 0x0c;
  voices = field_at 4 d 0x10;
  sinks = field_at 4 d 0x14;
  effects = field_at 4 d 0x18;
  splitters = field_at 4 d 0x24;
  splitter_destinations = field_at 4 d 0x28;
  revision = field_at 4 d 0x30;
}

-- the parameters in the first ten words
unfoldable pub params_of : List ℕ → Params
params_of s = record {
  sample_rate = slice_index s 0;
  sample_count = slice_index s 1;
  mix_buffers = slice_index s 2;
  sub_mixes = slice_index s 3;
  voices = slice_index s 4;
  sinks = slice_index s 5;
  effects = slice_index s 6;
  splitters = slice_index s 7;
  splitter_destinations = slice_index s 8;
  revision = slice_index s 9;
}

-- the row of the parameters
unfoldable pub row_of : Params → List ℕ
row_of p =
    p.sample_rate
    ∷ p.sample_count
    ∷ p.mix_buffers
    ∷ p.sub_mixes
    ∷ p.voices
    ∷ p.sinks
    ∷ p.effects
    ∷ p.splitters
    ∷ p.splitter_destinations
    ∷ p.revision
    ∷ []

-- ---- laws

pub length_row : (p : Params) → length (row_of p) ≡ 10
unfolding row_of
length_row p = refl

-- the round trip, also where other words follow
pub params_row : (p : Params) (s : List ℕ) → params_of (row_of p ++ s) ≡ p
unfolding row_of params_of
params_row p s = refl

pub params_put : (p : Params) (s : List ℕ) → params_of (put s 0 (row_of p)) ≡ p
unfolding put row_of params_of
params_put p s = refl

-- only the first ten words count
pub params_part : (s : List ℕ) → params_of (part 10 0 s) ≡ params_of s
unfolding part params_of
params_part s =
    let t : (i : ℕ) → i < 10 → slice_index (take 10 s) i ≡ slice_index_or s i 0 = λ i h. get_or-take 10 s i 0 h in
    λ z. record {
      sample_rate = t 0 (omega arith) z;
      sample_count = t 1 (omega arith) z;
      mix_buffers = t 2 (omega arith) z;
      sub_mixes = t 3 (omega arith) z;
      voices = t 4 (omega arith) z;
      sinks = t 5 (omega arith) z;
      effects = t 6 (omega arith) z;
      splitters = t 7 (omega arith) z;
      splitter_destinations = t 8 (omega arith) z;
      revision = t 9 (omega arith) z;
    }

-- ten fields, each as its reader gives it
pub parse_made : (d : List ℕ) {a b c e f g h i j k : ℕ} → a ≡ field_at 4 d 0x00 → b ≡ field_at 4 d 0x04 → c ≡ field_at 4 d 0x08 → e ≡ field_at 4 d 0x0c
    → f ≡ field_at 4 d 0x10 → g ≡ field_at 4 d 0x14 → h ≡ field_at 4 d 0x18 → i ≡ field_at 4 d 0x24 → j ≡ field_at 4 d 0x28 → k ≡ field_at 4 d 0x30
    → record {
      sample_rate = a;
      sample_count = b;
      mix_buffers = c;
      sub_mixes = e;
      voices = f;
      sinks = g;
      effects = h;
      splitters = i;
      splitter_destinations = j;
      revision = k;
    } ≡ parse_of d
unfolding parse_of
parse_made d ea eb ec ee ef eg eh ei ej ek = λ z. record {
  sample_rate = ea z;
  sample_count = eb z;
  mix_buffers = ec z;
  sub_mixes = ee z;
  voices = ef z;
  sinks = eg z;
  effects = eh z;
  splitters = ei z;
  splitter_destinations = ej z;
  revision = ek z;
}
