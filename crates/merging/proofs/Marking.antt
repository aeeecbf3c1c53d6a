-- The marks are those of the resources that voices name. Assumes nothing.
use mathlib.Core.Bool.{Bool, true, false, cond, ◌&&◌, ◌||◌}
use mathlib.Core.List.{List}
use mathlib.Core.Path.{◌≡◌, refl, ap, sym, ◌∙◌}
use Prim.Native.Nat.{ℕ, zero, suc, ◌≤◌, ◌<◌}
use native.Mathlib.Omega.{arith}
use borrow.Author.Tests.{eqb-true, eqb-false}
use lib.Dec.{eqb}
use lib.ListN.{length, get_or, set, replicate, length-set, length-replicate, get_or-replicate}
use lib.Seq.{get_or-set_same, get_or-set_other}
use Rattle.rows.specs.Folds.{up_to}
use Rattle.rows.specs.Loops.{up_to_keeps}
use Rattle.voice_records.specs.Record.{record_channels, id_at}
use Rattle.voice_records.specs.Laws.{id_below}
use Rattle.voices.specs.Voices.{record_at}
use Rattle.merging.specs.Merge.{used_at, any_below, record_names, names}
use Rattle.merging.specs.Marks.{most_marks, NamesMarked, mark_channel, marked_by, marked_at, marked}

-- ---- or

or_false : (a : Bool) → (a || false) ≡ a
or_false true = refl
or_false false = refl

or_true : (a : Bool) → (a || true) ≡ true
or_true true = refl
or_true false = refl

or_assoc : (a b c : Bool) → ((a || b) || c) ≡ (a || (b || c))
or_assoc true b c = refl
or_assoc false b c = refl

-- ---- steps of which each marks j where a test says so

module _ (step : ℕ → List Bool → List Bool) (f : ℕ → Bool) (j n long : ℕ)
    (keeps : (k : ℕ) (m : List Bool) → k < n → length m ≡ long → length (step k m) ≡ long)
    (marks : (k : ℕ) (m : List Bool) → k < n → length m ≡ long → get_or (step k m) j false ≡ (get_or m j false || f k)) where
  steps_mark : (k : ℕ) (m : List Bool) → k ≤ n → length m ≡ long → get_or (up_to step k m) j false ≡ (get_or m j false || any_below k f)
  unfolding up_to any_below
  steps_mark zero m h l = sym (or_false (get_or m j false))
  steps_mark (suc k) m h l =
      marks k (up_to step k m) h (up_to_keeps (λ (x : List Bool). length x ≡ long) step n keeps k m (omega arith) l)
      ∙ ap (λ (x : Bool). x || f k) (steps_mark k m (omega arith) l)
      ∙ or_assoc (get_or m j false) (any_below k f) (f k)

-- ---- by a channel, a record, a section

module _ (m : List Bool) (i j : ℕ) (inside : i < length m) where
  set_by : (b : Bool) → eqb i j ≡ b → get_or (set m i true) j false ≡ (get_or m j false || b)
  set_by true e =
      let q = eqb-true i j e in
      ap (λ (k : ℕ). get_or (set m i true) k false) (sym q) ∙ get_or-set_same m i true false inside ∙ sym (or_true (get_or m j false))
  set_by false e = get_or-set_other m i j true false (λ (q : j ≡ i). eqb-false i j e (sym q)) ∙ sym (or_false (get_or m j false))

  set_marks : get_or (set m i true) j false ≡ (get_or m j false || eqb i j)
  set_marks = set_by (eqb i j) refl

module _ (n : ℕ) where
  record_kept : (e : List ℕ) (m : List Bool) → length m ≡ most_marks → length (marked_by n e m) ≡ most_marks
  unfolding marked_by
  record_kept e m l =
      up_to_keeps (λ (x : List Bool). length x ≡ most_marks) (mark_channel n e) (record_channels e)
      (λ k x _ h. simp length-set h) (record_channels e) m (omega arith) l

  kept_by : (used : Bool) (e : List ℕ) (m : List Bool) → length m ≡ most_marks → length (cond used (marked_by n e m) m) ≡ most_marks
  kept_by true e m l = record_kept e m l
  kept_by false e m l = l

  -- a voice keeps the length
  pub length_marked_at : (d : List ℕ) (k : ℕ) (m : List Bool) → length m ≡ most_marks → length (marked_at n d k m) ≡ most_marks
  unfolding marked_at
  length_marked_at d k m l = kept_by (used_at d k) (record_at d k) m l

module _ (n : ℕ) (some : 0 < n) (few : n ≤ most_marks) (j : ℕ) where
  record_marks : (e : List ℕ) (m : List Bool) → length m ≡ most_marks → get_or (marked_by n e m) j false ≡ (get_or m j false || record_names n e j)
  unfolding marked_by record_names
  record_marks e m l =
      steps_mark (mark_channel n e) (λ c. eqb (id_at n e c) j) j (record_channels e) most_marks (λ k x _ h. simp length-set h)
      (λ k x _ h. set_marks x (id_at n e k) j (omega (arith, id_below n e k some))) (record_channels e) m (omega arith) l

  voice_by : (used : Bool) (e : List ℕ) (m : List Bool) → length m ≡ most_marks
      → get_or (cond used (marked_by n e m) m) j false ≡ (get_or m j false || (used && record_names n e j))
  voice_by true e m l = record_marks e m l
  voice_by false e m l = sym (or_false (get_or m j false))

  section_marks : (d : List ℕ) (m : List Bool) → length m ≡ most_marks → get_or (marked n d m) j false ≡ (get_or m j false || names n d j)
  unfolding marked marked_at names
  section_marks d m l =
      steps_mark (marked_at n d) (λ k. used_at d k && record_names n (record_at d k) j) j n most_marks
      (λ k x _ h. length_marked_at n d k x h) (λ k x _ h. voice_by (used_at d k) (record_at d k) x h) n m (omega arith) l

-- from no mark on
pub marked_names : (n : ℕ) → n ≤ most_marks → (d : List ℕ) → NamesMarked n d (marked n d (replicate most_marks false))
marked_names n few d j h =
    section_marks n (omega arith) few j d (replicate most_marks false) (length-replicate most_marks false)
    ∙ ap (λ (x : Bool). x || names n d j) (get_or-replicate most_marks j false false (omega arith))
