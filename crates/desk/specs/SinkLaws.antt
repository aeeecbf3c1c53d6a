-- Laws of `update_sinks`: what it keeps of the sinks' rows. Assumes nothing.
use Rattle.std.specs.Prelude.{◌≡◌, refl, Bool, true, false, List, length, get_or, Float}
use Rattle.std.proofs.Common.{◌∙◌, arith, length-drop, get_or-drop}
use Prim.Native.Nat.{ℕ, ◌+◌, ◌*◌, ◌/◌, ◌≤◌, ◌<◌, min}
use Rattle.std.proofs.Math.Nat.{min-le_left, min-le_right}
use Rattle.rows.specs.Rows.{part, length_put, length_part}
use Rattle.rows.specs.Loops.{up_to_keeps}
use Rattle.rows.specs.Tables.{length_table}
use Rattle.fields.specs.Fields.{flag_at}
use Rattle.desk.specs.Records.{float_at, word_of}
use Rattle.desk.specs.Columns.{AtMost, at_most_put}
use Rattle.desk.specs.Parts.{get_d_part}
use Rattle.desk.specs.Sinks.{SinkRows, SinksSized, sink_record, is_device, device_row, sink_words_if, sink_floats_if, sink_put, sink_step, sinks_of}

-- ---- the rows of one sink

flag_small : (t : Bool) → word_of t ≤ 1
flag_small true = omega arith
flag_small false = omega arith

length_words_if : (device : Bool) (p w : List ℕ) → length w ≡ 10 → length (sink_words_if device p w) ≡ 10
unfolding sink_words_if device_row
length_words_if true p w h = refl
length_words_if false p w h = simp length-drop (omega arith)

length_floats_if : (device : Bool) (p : List ℕ) (f : List Float) → length f ≡ 4 → length (sink_floats_if device p f) ≡ 4
unfolding sink_floats_if
length_floats_if true p f h = length_table 4 (float_at p 0x12c)
length_floats_if false p f h = h

-- flags are 0 or 1, inputs at most 6
pub record SinkFlags (n : ℕ) (words : List ℕ) : Type 0 where
  pub used : AtMost n 10 0 1 words
  pub device : AtMost n 10 1 1 words
  pub inputs : AtMost n 10 2 6 words
  pub given : AtMost n 10 9 1 words

used_if : (device : Bool) (p w : List ℕ) → get_or (sink_words_if device p w) 0 0 ≤ 1
unfolding sink_words_if device_row
used_if true p w = flag_small (flag_at p 1)
used_if false p w = flag_small (flag_at p 1)

device_if : (device : Bool) (p w : List ℕ) → get_or (sink_words_if device p w) 1 0 ≤ 1
unfolding sink_words_if device_row
device_if true p w = omega arith
device_if false p w = omega arith

inputs_if : (device : Bool) (p w : List ℕ) → get_or w 2 0 ≤ 6 → get_or (sink_words_if device p w) 2 0 ≤ 6
unfolding sink_words_if device_row
inputs_if true p w h = min-le_right _ 6
inputs_if false p w h = rw get_or-drop h

given_if : (device : Bool) (p w : List ℕ) → get_or w 9 0 ≤ 1 → get_or (sink_words_if device p w) 9 0 ≤ 1
unfolding sink_words_if device_row
given_if true p w h = flag_small (flag_at p 0x12b)
given_if false p w h = rw get_or-drop h

-- ---- one record

abbrev pub Sized : ℕ → SinkRows → Type 0
Sized n st = SinksSized n st.words st.floats

module _ (n k : ℕ) (p : List ℕ) (st : SinkRows) (b : k < n) (s : Sized n st) where
  words_fit : k * 10 + 10 ≤ length st.words
  words_fit = omega (arith, s.words_long)

  floats_fit : k * 4 + 4 ≤ length st.floats
  floats_fit = omega (arith, s.floats_long)

  new_long : length (sink_words_if (is_device p) p (part 10 (k * 10) st.words)) ≡ 10
  new_long = length_words_if (is_device p) p _ (length_part 10 (k * 10) st.words words_fit)

  new_floats_long : length (sink_floats_if (is_device p) p (part 4 (k * 4) st.floats)) ≡ 4
  new_floats_long = length_floats_if (is_device p) p _ (length_part 4 (k * 4) st.floats floats_fit)

  put_sized : Sized n (sink_put p k st)
  unfolding sink_put
  put_sized = record {
    most = s.most;
    words_long = length_put st.words (k * 10) _ (rw new_long words_fit) ∙ s.words_long;
    floats_long = length_put st.floats (k * 4) _ (rw new_floats_long floats_fit) ∙ s.floats_long;
  }

  was : (j : ℕ) → j < 10 → {m : ℕ} → get_or st.words (k * 10 + j) 0 ≤ m → get_or (part 10 (k * 10) st.words) j 0 ≤ m
  was j h l = rw (get_d_part 10 (k * 10) st.words j 0 h) l

  row_put : (j m : ℕ) → j < 10 → AtMost n 10 j m st.words → get_or (sink_words_if (is_device p) p (part 10 (k * 10) st.words)) j 0 ≤ m
      → AtMost n 10 j m (sink_put p k st).words
  unfolding sink_put
  row_put j m h all below = at_most_put n 10 j m st.words h s.words_long all k _ b new_long below

  put_flags : SinkFlags n st.words → SinkFlags n (sink_put p k st).words
  put_flags f = record {
    used = row_put 0 1 (omega arith) f.used (used_if (is_device p) p _);
    device = row_put 1 1 (omega arith) f.device (device_if (is_device p) p _);
    inputs = row_put 2 6 (omega arith) f.inputs (inputs_if (is_device p) p _ (was 2 (omega arith) (f.inputs k b)));
    given = row_put 9 1 (omega arith) f.given (given_if (is_device p) p _ (was 9 (omega arith) (f.given k b)));
  }

-- record k leaves the rows sized
pub step_sized : (n : ℕ) (d : List ℕ) (k : ℕ) (st : SinkRows) → k < n → Sized n st → Sized n (sink_step d k st)
unfolding sink_step
step_sized n d k st b s = put_sized n k (sink_record d k) st b s

-- ---- `update_sinks`

module _ {ℓ} (n : ℕ) (P : SinkRows → Type ℓ) (keeps : (k : ℕ) (p : List ℕ) (st : SinkRows) → k < n → P st → P (sink_put p k st)) where
  pub sinks_keep : (d : List ℕ) (st : SinkRows) → P st → P (sinks_of d n st)
  unfolding sinks_of sink_step
  sinks_keep d st h =
      let m = min n (length d / 0x140) in
      up_to_keeps P (sink_step d) m (λ k st' l h'. keeps k (sink_record d k) st' (omega (arith, min-le_left n (length d / 0x140))) h') m st (omega arith) h

-- the lengths stay
pub sinks_sized : (n : ℕ) (d : List ℕ) (st : SinkRows) → Sized n st → Sized n (sinks_of d n st)
sinks_sized n = sinks_keep n (Sized n) (put_sized n)

record Flagged (n : ℕ) (st : SinkRows) : Type 0 where
  sized : Sized n st
  flags : SinkFlags n st.words

put_flagged : (n k : ℕ) (p : List ℕ) (st : SinkRows) → k < n → Flagged n st → Flagged n (sink_put p k st)
put_flagged n k p st b h = record { sized = put_sized n k p st b h.sized; flags = put_flags n k p st b h.sized h.flags }

-- flags and counts stay small
pub sinks_flags : (n : ℕ) (d : List ℕ) (st : SinkRows) → Sized n st → SinkFlags n st.words → SinkFlags n (sinks_of d n st).words
sinks_flags n d st s f = (sinks_keep n (Flagged n) (put_flagged n) d st (record { sized = s; flags = f })).flags
