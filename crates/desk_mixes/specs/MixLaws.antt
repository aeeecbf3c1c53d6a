-- Laws of `update_mixes`: what it keeps of the mixes' rows. Assumes nothing.
use Rattle.std.specs.Prelude.{◌≡◌, refl, Bool, List, ℕ, suc, ◌+◌, ◌-◌, ◌*◌, ◌/◌, ◌≤◌, ◌<◌, ltb, length, get_or, Float}
use Rattle.std.proofs.Common.{ap, sym, subst, ◌∙◌, arith, length-drop, get_or-drop}
use Rattle.std.proofs.Math.Bool.{true, false}
use Rattle.std.proofs.Math.Nat.{min-le_right}
use borrow.Author.Tests.{ltb-true}
use Rattle.rows.specs.Rows.{part, length_put, length_part}
use Rattle.rows.specs.Loops.{up_to_keeps}
use Rattle.rows.specs.Tables.{length_table}
use Rattle.fields.specs.Fields.{flag_at}
use Rattle.desk.specs.Records.{float_at}
use Rattle.desk.specs.Columns.{AtMost, at_most_put}
use Rattle.desk.specs.Parts.{get_d_part}
use Rattle.desk_mixes.specs.Mixes.{MixRows, MixesSized, dirty_only, mix_base, mix_count, mixes_read, mix_record, mix_id, mix_head, mix_volumes, mix_words_if, mix_floats_if, mix_words, mix_floats, mix_put, mix_put_if, mix_act, mix_step, mix_records, counts_before, mixes_of}
use Rattle.desk_mixes.specs.Offsets.{counts_below, length_offsets, offsets_other, offset_is}

-- a record that is read is inside
pub mix_inside : (dirty : Bool) (d : List ℕ) (i : ℕ) → i < mixes_read dirty d → mix_base dirty + i * 0x930 + 0x930 ≤ length d
unfolding mixes_read
mix_inside dirty d i h =
    let whole : i < (length d - mix_base dirty) / 0x930 = omega (arith, min-le_right (mix_count dirty d) ((length d - mix_base dirty) / 0x930)) in
    omega arith

-- ---- the words and floats that a record makes of a mix's

length_words_if : (used : Bool) (p w : List ℕ) → length w ≡ 5 → length (mix_words_if used p w) ≡ 5
unfolding mix_words_if mix_head
length_words_if true p w h = simp length-drop (omega arith)
length_words_if false p w h = simp length-drop (omega arith)

length_floats_if : (used : Bool) (p : List ℕ) (f : List Float) → length f ≡ 577 → length (mix_floats_if used p f) ≡ 577
unfolding mix_floats_if mix_volumes
length_floats_if true p f h = ap suc (length_table 576 (float_at p 0x24))
length_floats_if false p f h = h

count_if : (used : Bool) (p w : List ℕ) → get_or w 1 0 ≤ 24 → get_or (mix_words_if used p w) 1 0 ≤ 24
unfolding mix_words_if mix_head
count_if true p w h = min-le_right _ 24
count_if false p w h = rw get_or-drop h

used_if : (used : Bool) (p w : List ℕ) → get_or (mix_words_if used p w) 0 0 ≤ 1
unfolding mix_words_if mix_head
used_if true p w = omega arith
used_if false p w = omega arith

-- ---- one record

-- record p, for a mix that there is
module _ (n id : ℕ) (p : List ℕ) (st : MixRows) (b : id < n) (s : MixesSized n st.words st.floats) where
  words_fit : id * 5 + 5 ≤ length st.words
  words_fit = omega (arith, s.words_long)

  floats_fit : id * 577 + 577 ≤ length st.floats
  floats_fit = omega (arith, s.floats_long)

  new_long : length (mix_words p (part 5 (id * 5) st.words)) ≡ 5
  unfolding mix_words
  new_long = length_words_if (flag_at p 0x0c) p _ (length_part 5 (id * 5) st.words words_fit)

  new_floats_long : length (mix_floats p (part 577 (id * 577) st.floats)) ≡ 577
  unfolding mix_floats
  new_floats_long = length_floats_if (flag_at p 0x0c) p _ (length_part 577 (id * 577) st.floats floats_fit)

  new_count : get_or (mix_words p (part 5 (id * 5) st.words)) 1 0 ≤ 24
  unfolding mix_words
  new_count = count_if (flag_at p 0x0c) p _ (rw (get_d_part 5 (id * 5) st.words 1 0 (omega arith)) (s.counts id b))

  put_sized : MixesSized n (mix_put p id st).words (mix_put p id st).floats
  unfolding mix_put
  put_sized = record {
    some = s.some;
    most = s.most;
    words_long = length_put st.words (id * 5) _ (rw new_long words_fit) ∙ s.words_long;
    floats_long = length_put st.floats (id * 577) _ (rw new_floats_long floats_fit) ∙ s.floats_long;
    counts = at_most_put n 5 1 24 st.words (omega arith) s.words_long s.counts id _ b new_long new_count;
  }

  put_flags : AtMost n 5 0 1 st.words → AtMost n 5 0 1 (mix_put p id st).words
  unfolding mix_put mix_words
  put_flags all = at_most_put n 5 0 1 st.words (omega arith) s.words_long all id _ b new_long (used_if (flag_at p 0x0c) p _)

-- ---- all records

-- what holds of the rows before, and is kept where a mix's rows are put, holds after the records
module _ {ℓ} (n : ℕ) (P : MixRows → Type ℓ) (keeps : (id : ℕ) (p : List ℕ) (st : MixRows) → id < n → P st → P (mix_put p id st)) where
  put_if_keeps : (id : ℕ) (p : List ℕ) (st : MixRows) (t : Bool) → (t ≡ true → id < n) → P st → P (mix_put_if t p id st)
  unfolding mix_put_if
  put_if_keeps id p st true b h = keeps id p st (b refl) h
  put_if_keeps id p st false b h = h

  pub step_keeps : (dirty : Bool) (d : List ℕ) (i : ℕ) (st : MixRows) → P st → P (mix_step dirty d n i st)
  unfolding mix_step mix_act
  step_keeps dirty d i st h =
      let p = mix_record dirty d i in
      let id = mix_id dirty p i in
      put_if_keeps id p st (ltb id n) (λ e. ltb-true id n e) h

  pub records_keep : (dirty : Bool) (d : List ℕ) (st : MixRows) → P st → P (mix_records dirty d n st)
  unfolding mix_records
  records_keep dirty d st h =
      up_to_keeps P (mix_step dirty d n) (mixes_read dirty d) (λ i st' _ h'. step_keeps dirty d i st' h') (mixes_read dirty d) st (omega arith) h

abbrev pub Sized : ℕ → MixRows → Type 0
Sized n st = MixesSized n st.words st.floats

-- rows that are the same are sized alike
pub same_sized : (n : ℕ) {st st' : MixRows} → st' ≡ st → Sized n st → Sized n st'
same_sized n e s = subst (Sized n) (sym e) s

-- a record, and all of them, leave the rows sized
pub step_sized : (n : ℕ) (dirty : Bool) (d : List ℕ) (i : ℕ) (st : MixRows) → Sized n st → Sized n (mix_step dirty d n i st)
step_sized n = step_keeps n (Sized n) (put_sized n)

pub records_sized : (n : ℕ) (dirty : Bool) (d : List ℕ) (st : MixRows) → Sized n st → Sized n (mix_records dirty d n st)
records_sized n = records_keep n (Sized n) (put_sized n)

-- sized, and `used` is 0 or 1
record Flagged (n : ℕ) (st : MixRows) : Type 0 where
  sized : Sized n st
  flags : AtMost n 5 0 1 st.words

put_flagged : (n id : ℕ) (p : List ℕ) (st : MixRows) → id < n → Flagged n st → Flagged n (mix_put p id st)
put_flagged n id p st b h = record { sized = put_sized n id p st b h.sized; flags = put_flags n id p st b h.sized h.flags }

-- ---- `update_mixes`

module _ (revision : ℕ) (d : List ℕ) (n : ℕ) (st : MixRows) (s : Sized n st) where
  -- the lengths stay, and each mix has at most 24 buffers
  pub mixes_sized : Sized n (mixes_of revision d n st)
  unfolding mixes_of
  mixes_sized =
      let r = mix_records (dirty_only revision) d n st in
      let t = records_sized n (dirty_only revision) d st s in
      record {
        some = s.some;
        most = s.most;
        words_long = length_offsets n r.words ∙ t.words_long;
        floats_long = t.floats_long;
        counts = λ k h. rw (offsets_other n k 1 r.words (omega arith)) (t.counts k h);
      }

  -- a mix's offset is the sum of the buffer counts of those before it
  pub mix_offset_is : (k : ℕ) → k < n → get_or (mixes_of revision d n st).words (k * 5 + 4) 0 ≡ counts_before k (mixes_of revision d n st).words
  unfolding mixes_of
  mix_offset_is k h =
      let t = records_sized n (dirty_only revision) d st s in
      offset_is n k (mix_records (dirty_only revision) d n st).words (omega (arith, t.words_long)) h

  pub mix_offset_below : (k : ℕ) → k < n → get_or (mixes_of revision d n st).words (k * 5 + 4) 0 ≤ k * 24
  mix_offset_below k h = rw (mix_offset_is k h) (counts_below n k _ (omega arith) mixes_sized.counts)

  -- `used` is 0 or 1 where it was
  pub mix_flags : AtMost n 5 0 1 st.words → AtMost n 5 0 1 (mixes_of revision d n st).words
  unfolding mixes_of
  mix_flags all k h =
      let t = records_keep n (Flagged n) (put_flagged n) (dirty_only revision) d st (record { sized = s; flags = all }) in
      rw (offsets_other n k 0 (mix_records (dirty_only revision) d n st).words (omega arith)) (t.flags k h)
