-- A mix's rows, as the code stores them, are what the definition puts. Assumes nothing.
use mathlib.Core.Path.{◌≡◌, refl, ap, sym, ◌∙◌}
use mathlib.Core.Bool.{Bool, true, false}
use mathlib.Core.List.{List, [], ◌∷◌}
use Prim.Native.Nat.{ℕ, ◌+◌, ◌*◌, ◌≤◌, ◌<◌}
use native.Mathlib.Omega.{arith}
use borrow.Author.Tests.{lt-ltb, le-ltb}
use lib.ListN.{length, set}
use lib.Ieee.{Float}
use Rattle.rows.specs.Rows.{put, put_one, put_part, put_more}
use Rattle.rows.specs.Tables.{table, length_table}
use Rattle.fields.specs.Fields.{flag_at, section_of}
use Rattle.desk.specs.Parts.{put_front}
use Rattle.desk.specs.Records.{float_at}
use Rattle.desk_mixes.specs.Mixes.{MixRows, mix_rows, mix_base, mix_record, mix_id, mix_head, mix_volumes, mix_words_if, mix_floats_if, mix_words, mix_floats, mix_put, mix_put_if, mix_act, mix_step}

-- the volume, and the volumes behind it
pub volumes : (p : List ℕ) (at : ℕ) (f : List Float) {v : Float} {f' : List Float} → at + 577 ≤ length f → v ≡ float_at p 0x00 0
    → f' ≡ put (set f at v) (at + 1) (table 576 (float_at p 0x24)) → f' ≡ put f at (mix_volumes p)
unfolding mix_volumes
volumes p at f h ev ef =
    let there : at < length f = omega arith in
    let fits : at + 1 + length (table 576 (float_at p 0x24)) ≤ length f = rw length_table (omega arith) in
    put_more f at 1 (float_at p 0x00 0 ∷ []) (table 576 (float_at p 0x24)) refl fits (ap (set f at) ev ∙ put_one f at (float_at p 0x00 0) there) ef

module _ (p : List ℕ) (id : ℕ) (w : List ℕ) {w' : List ℕ} (f : List Float) {f' : List Float} (wide : id * 5 + 5 ≤ length w) (long : id * 577 + 577 ≤ length f) where
  pub used : flag_at p 0x0c ≡ true → w' ≡ put w (id * 5) (mix_head p) → f' ≡ put f (id * 577) (mix_volumes p)
      → mix_rows w' f' ≡ mix_put p id (mix_rows w f)
  unfolding mix_put mix_words mix_floats mix_words_if mix_floats_if mix_head
  used e ew ef = rw e (λ i. mix_rows ((ew ∙ sym (put_front 1 (id * 5) w (mix_head p) wide)) i) (ef i))

  pub unused : flag_at p 0x0c ≡ false → w' ≡ set w (id * 5) 0 → f' ≡ f → mix_rows w' f' ≡ mix_put p id (mix_rows w f)
  unfolding mix_put mix_words mix_floats mix_words_if mix_floats_if
  unused e ew ef =
      let there : id * 5 < length w = omega arith in
      rw e (λ i. mix_rows
      ((ew ∙ put_one w (id * 5) 0 there ∙ sym (put_front 4 (id * 5) w (0 ∷ []) wide)) i)
      ((ef ∙ sym (put_part 577 (id * 577) f long)) i))

pub record_is : (dirty : Bool) (d : List ℕ) (i : ℕ) {base : ℕ} {p : List ℕ} → base ≡ mix_base dirty → p ≡ section_of d (base + i * 0x930) 0x930 → p ≡ mix_record dirty d i
unfolding mix_record
record_is dirty d i eb ep = cc

-- record i, p, is for mix id: it puts its rows, or there is no such mix
module _ (dirty : Bool) (d : List ℕ) (n i : ℕ) {p : List ℕ} {id : ℕ} (is : p ≡ mix_record dirty d i) (for : id ≡ mix_id dirty p i) (st : MixRows) where
  pub acts : {st' : MixRows} → id < n → st' ≡ mix_put p id st → st' ≡ mix_step dirty d n i st
  unfolding mix_step mix_act mix_put_if
  acts h e = rw (← is, ← for, lt-ltb id n h) e

  pub stays : n ≤ id → st ≡ mix_step dirty d n i st
  unfolding mix_step mix_act mix_put_if
  stays h = rw (← is, ← for, le-ltb id n h)
