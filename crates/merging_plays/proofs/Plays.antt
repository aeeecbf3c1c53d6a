-- The merged block's voices play as in the block that they come from, as far as positions go. Assumes nothing.
use mathlib.Core.Path.{◌≡◌, refl, ap, sym, ◌∙◌}
use mathlib.Core.Bool.{Bool, true, false, cond, ◌&&◌, true≢false}
use mathlib.Core.List.{List}
use Prim.Native.Nat.{ℕ, ◌<◌}
use native.Mathlib.Omega.{arith}
use lib.ListN.{length}
use Rattle.fields.specs.Fields.{le, field_at, flag_at}
use Rattle.params.specs.declared.params.Params.{Params}
use Rattle.state.specs.State.{State, params_in}
use Rattle.whole.specs.Whole.{Whole}
use Rattle.voice_records.specs.Record.{record_used}
use Rattle.voices.specs.Voices.{voice_record}
use Rattle.reply_sections.specs.Bytes.{zeros}
use Rattle.updates.specs.Update.{updated}
use Rattle.merging.specs.Merge.{record_size, merged_block}
use Rattle.merging.specs.Answer.{merge_call}
use Rattle.merging_plays.specs.Own.{Own}
use Rattle.merging_plays.specs.Plays.{merged_for, Whose, title, click, block_of, in_use, PlaysAsIn, RendersAsIn, PutsOut}
use Rattle.merging_plays.proofs.Laid.{record_merged, merged_nonempty, used_nonempty}
use Rattle.merging_plays.proofs.Steps.{updated_own}
use Rattle.merging_plays.proofs.Updates.{updates_tell}
use Rattle.merging_plays.proofs.Items.{first_and_rest, items_play}
use Rattle.merging_plays.proofs.Renders.{renders_play}
use Rattle.merging_plays.proofs.Merges.{merges}
use Rattle.merging_plays.proofs.Unused.{unused_puts}

-- ---- the record that is taken

from_title : (u v : Bool) (a b z : List ℕ) → u ≡ true → cond u a (cond v b z) ≡ a
from_title u v a b z e = λ i. cond (e i) a (cond v b z)

-- where the voice is not in use in both
from_click : (u v : Bool) (a b z : List ℕ) → u && v ≡ false → v ≡ true → cond u a (cond v b z) ≡ b
from_click true true a b z n e = absurd (true≢false n)
from_click true false a b z n e = absurd (true≢false (sym e))
from_click false true a b z n e = refl
from_click false false a b z n e = absurd (true≢false (sym e))

from_neither : (u v : Bool) (a b z : List ℕ) → u ≡ false → v ≡ false → cond u a (cond v b z) ≡ z
from_neither u v a b z e f = λ i. cond (e i) a (cond (f i) b z)

zeros_unused : record_used (zeros record_size) ≡ false
unfolding record_used flag_at field_at le zeros
zeros_unused = refl

-- ---- a merge for the parameters of a whole state succeeds, and k is one of its voices

module _ (st : State) (w : Whole st) (t c output : List ℕ) (yes : (merge_call (params_in st) t c output).number ≡ 0)
    (k : ℕ) (l : k < (params_in st).voices) where
  abbrev p : Params
  p = params_in st

  abbrev merged : List ℕ
  merged = merged_for st t c output

  block_is : merged ≡ merged_block p.voices t c
  block_is = (merges p t c output yes).block

  -- its record for the voice
  record_is : voice_record merged k ≡ cond (in_use k t) (voice_record t k) (cond (in_use k c) (voice_record c k) (zeros record_size))
  record_is = ap (λ (d : List ℕ). voice_record d k) block_is ∙ record_merged p.voices w.allowed.voices t c k l

  some_merged : 0 < length merged
  some_merged = rw block_is (omega (arith, merged_nonempty p.voices w.allowed.voices t c))

  -- which is that of the block where the voice is in use
  record_from : (x : Whose) → in_use k (block_of x t c) ≡ true → voice_record merged k ≡ voice_record (block_of x t c) k
  record_from title u = record_is ∙ from_title (in_use k t) (in_use k c) _ _ _ u
  record_from click u = record_is ∙ from_click (in_use k t) (in_use k c) _ _ _ ((merges p t c output yes).apart k l) u

  self : Own p k st st
  self = record { left = w; right = w; left_params = refl; right_params = refl; voice = refl }

  -- after an update with the one and with the other
  merged_own : (x : Whose) → in_use k (block_of x t c) ≡ true → Own p k (updated p merged st) (updated p (block_of x t c) st)
  merged_own x u = updated_own l self merged (block_of x t c) some_merged (used_nonempty (block_of x t c) k u) (record_from x u)

  -- the voice plays as in the block where it is in use
  pub merged_plays : (x : Whose) → PlaysAsIn st t c output k x
  merged_plays x u expected reply reply' long xs xs' e =
      let first = updates_tell l self expected merged (block_of x t c) (merged_own x u) reply reply' long in
      first_and_rest first refl (items_play l first.own xs xs' e)

  -- in renders that are not refused also where slices of other lengths are lent
  pub merged_renders : (x : Whose) → RendersAsIn st t c output k x
  merged_renders x u xs xs' same e e' = renders_play l (merged_own x u) xs xs' same e e'

  -- one that is in use in neither is put out of use, as by either block alone that isn't empty
  pub merged_unused : in_use k t ≡ false → in_use k c ≡ false
      → PutsOut st k merged × (0 < length t → PutsOut st k t) × (0 < length c → PutsOut st k c)
  merged_unused u v =
      let none = ap record_used (record_is ∙ from_neither (in_use k t) (in_use k c) _ _ _ u v) ∙ zeros_unused in
      (unused_puts st w k l merged some_merged none, λ some. unused_puts st w k l t some u, λ some. unused_puts st w k l c some v)
