-- A reply has each voice's status where `status_in` reads it. Assumes nothing.
use mathlib.Core.Path.{◌≡◌, refl, ◌∙◌}
use mathlib.Core.List.{List, ◌++◌}
use Prim.Native.Nat.{ℕ, ◌+◌, ◌*◌, ◌<◌}
use native.Mathlib.Omega.{arith}
use lib.ListN.{length, length-append}
use Rattle.rows.specs.Folds.{row_end}
use Rattle.rows.specs.Tables.{joined}
use Rattle.params.specs.declared.params.Params.{Params}
use Rattle.params.specs.Sizes.{pools_of, effects_bytes}
use Rattle.reply_sections.specs.Voices.{status_at, voices_bytes, length_status_at}
use Rattle.reply.specs.Reply.{header_of, pools_of_input, effects_section, front_of, front_bytes, back_of, reply_of, status_place, status_in}
use Rattle.reply.specs.Laws.{length_header, length_pools_of, length_front}
use Rattle.opened.specs.Sections.{part_first, part_behind, part_joined}

pub reply_status : (p : Params) (expected : ℕ) (input : List ℕ) (elapsed : ℕ) (words longs : List ℕ) (k : ℕ) → k < p.voices
    → status_in p k (reply_of p expected input elapsed words longs) ≡ status_at words longs k
unfolding reply_of front_of voices_bytes
reply_status p expected input elapsed words longs k h =
    let head = header_of p expected ++ pools_of_input p input in
    let rows = joined p.voices (status_at words longs) in
    let front : length (head ++ rows) ≡ front_bytes p = length_front p expected input words longs in
    let long : length head ≡ 0x40 + pools_of p * 0x10 = rw (length-append, length_header, length_pools_of) in
    let back = back_of p (effects_bytes p expected) (effects_section input) elapsed in
    part_first (head ++ rows) back 0x10 (status_place p k) (omega (arith, front, row_end 0 0x10 k p.voices h))
    ∙ part_behind head rows 0x10 (k * 0x10) long refl
    ∙ part_joined 0x10 p.voices (status_at words longs) (length_status_at words longs) k h
