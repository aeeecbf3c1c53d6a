-- Which record and which channel resource is taken, by each test's answer. Assumes nothing.
use mathlib.Core.Bool.{Bool, true, false, cond}
use mathlib.Core.List.{List, [], ◌++◌}
use mathlib.Core.Path.{◌≡◌, refl, sym}
use Prim.Native.Nat.{ℕ, zero, suc, ◌*◌, ◌<◌}
use native.Mathlib.Omega.{arith}
use lib.ListN.{get_or}
use Rattle.rows.specs.Tables.{joined}
use Rattle.params.specs.Sections.{voices_section, resources_section}
use Rattle.voices.specs.Voices.{record_at}
use Rattle.merging.specs.Merge.{resource_size, record_size, padded, used_at, chosen_record, merged_record, chosen_resource, merged_resource}
use Rattle.merging.specs.Marks.{NamesMarked}

module _ (d e : List ℕ) (k : ℕ) where
  pub chosen_first : used_at d k ≡ true → record_at d k ≡ chosen_record d e k
  unfolding chosen_record
  chosen_first h = λ i. cond (sym h i) (record_at d k) (cond (used_at e k) (record_at e k) [])

  pub chosen_second : used_at d k ≡ false → used_at e k ≡ true → record_at e k ≡ chosen_record d e k
  unfolding chosen_record
  chosen_second h g = λ i. cond (sym h i) (record_at d k) (cond (sym g i) (record_at e k) [])

  pub chosen_none : used_at d k ≡ false → used_at e k ≡ false → [] ≡ chosen_record d e k
  unfolding chosen_record
  chosen_none h g = λ i. cond (sym h i) (record_at d k) (cond (sym g i) (record_at e k) [])

module _ {named : Bool} (title click : List ℕ) (j : ℕ) where
  pub resource_named : named ≡ true → padded resource_size (j * resource_size) click ≡ chosen_resource named title click j
  unfolding chosen_resource
  resource_named h = λ i. padded resource_size (j * resource_size) (cond (sym h i) click title)

  pub resource_left : named ≡ false → padded resource_size (j * resource_size) title ≡ chosen_resource named title click j
  unfolding chosen_resource
  resource_left h = λ i. padded resource_size (j * resource_size) (cond (sym h i) click title)

-- ---- all of them

joined_alike : (n : ℕ) (f g : ℕ → List ℕ) → ((j : ℕ) → j < n → f j ≡ g j) → joined n f ≡ joined n g
unfolding joined
joined_alike zero f g h = refl
joined_alike (suc n) f g h = λ i. joined_alike n f g (λ j l. h j (omega arith)) i ++ h n (omega arith) i

pub resources_are : (n : ℕ) (t c : List ℕ) (marks : List Bool) → NamesMarked n (voices_section c) marks
    → joined n (λ j. chosen_resource (get_or marks j false) (resources_section t) (resources_section c) j) ≡ joined n (merged_resource n t c)
unfolding merged_resource
resources_are n t c marks h =
    joined_alike n _ (merged_resource n t c) (λ j l i. chosen_resource (h j l i) (resources_section t) (resources_section c) j)

pub records_are : (n : ℕ) (t c : List ℕ)
    → joined n (λ k. padded record_size 0 (chosen_record (voices_section t) (voices_section c) k)) ≡ joined n (merged_record t c)
unfolding merged_record
records_are n t c = refl
