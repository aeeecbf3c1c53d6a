-- Laws of what the section leaves: the rows keep their sizes, lists stay within the destination count, and used words stay 0 or 1.
-- Assumes nothing.
use Rattle.std.specs.Prelude.{◌≡◌, refl, Bool, true, false, cond, ℕ, ◌+◌, ◌*◌, ◌≤◌, ◌<◌, ltb, eqb, Float, get_or}
use Rattle.std.proofs.Common.{ap, sym, ◌∙◌, add-zero}
use mathlib.Core.List.{List, [], ◌∷◌}
use native.Mathlib.Omega.{arith}
use borrow.Author.Tests.{ltb-true, ltb-false}
use Rattle.std.proofs.Math.ListN.{length}
use Rattle.fields.specs.Fields.{field_at}
use Rattle.fields.specs.Writes.{get_d_put_before, get_d_put_in, get_d_put_after}
use Rattle.rows.specs.Rows.{put, length_put}
use Rattle.rows.specs.Tables.{table, length_table}
use Rattle.splitters.specs.Walk.{steps_keep}
use Rattle.splitters.specs.Lists.{entry_of, count_of, with_list, Lists, lists, splitter_step, splitters_from}
use Rattle.splitters.specs.Destinations.{flag_of, used_of, newly_of, volume_of, volumes_of, stored_words, stored_floats, with_words, with_floats, Left, left, destination_step, destinations_from}
use Rattle.splitters.specs.Section.{Sized, header_magic, records_from, records_of, splitters_of}

-- every splitter's list is no longer than the destination count
abbrev pub ListsFit : ℕ → ℕ → List ℕ → Type 0
ListsFit ns nd w = (i : ℕ) → i < ns → get_or w (i * 129) 0 ≤ nd

-- every destination's used word is 0 or 1
abbrev pub FlagsFit : ℕ → ℕ → List ℕ → Type 0
FlagsFit ns nd w = (i : ℕ) → i < nd → get_or w (ns * 129 + i * 2) 0 ≤ 1

-- ---- what every record keeps, the section keeps

cond_keeps {ℓ} : {X : Type ℓ} (P : X → Type 0) (b : Bool) {x y : X} → (b ≡ true → P x) → P y → P (cond b x y)
cond_keeps P true h k = h refl
cond_keeps P false h k = k

module _ (ns nd : ℕ) (d : List ℕ) (Q : List ℕ → List Float → Type 0)
    (list : (at : ℕ) (w : List ℕ) (f : List Float) → Q w f → Q (with_list ns (count_of nd d at) d at w) f)
    (row : (at : ℕ) (w : List ℕ) (f : List Float) → Q w f → Q (with_words ns nd d at w) (with_floats ns nd d at w f)) where
  lists_keep : (count at : ℕ) (w : List ℕ) (f : List Float) → Q w f → Q (splitters_from ns nd d count at w).words f
  unfolding splitters_from splitter_step
  lists_keep count at w f = steps_keep _ _ (λ (s : Lists). Q s.words f) (λ s. list s.at s.words f) _ count (lists at w)

  rows_keep : (stride count at : ℕ) (w : List ℕ) (f : List Float) → Q w f
      → Q (destinations_from ns nd d stride count at w f).words (destinations_from ns nd d stride count at w f).floats
  unfolding destinations_from destination_step
  rows_keep stride count at w f = steps_keep _ _ (λ (s : Left). Q s.words s.floats) (λ s. row s.at s.words s.floats) _ count (left at w f)

  pub section_keeps : (w : List ℕ) (f : List Float) → Q w f → Q (splitters_of ns nd d w f).words (splitters_of ns nd d w f).floats
  unfolding splitters_of records_of records_from
  section_keeps w f q =
      let P : Left → Type 0 = λ s. Q s.words s.floats in
      cond_keeps P (eqb ns 0) (λ _. q)
      (cond_keeps P (eqb nd 0) (λ _. q)
      (cond_keeps P (eqb (field_at 4 d 0) header_magic) (λ _. rows_keep _ _ _ _ f (lists_keep _ _ w f q)) q))

-- ---- a row that is put

by_order : {X : Type 0} (a b : ℕ) (t u : Bool) → ltb a b ≡ t → ltb b a ≡ u → (a < b → X) → (a ≡ b → X) → (b < a → X) → X
by_order a b true u p q f g h = f (ltb-true a b p)
by_order a b false true p q f g h = h (ltb-true b a q)
by_order a b false false p q f g h =
    let l = ltb-false a b p in
    let m = ltb-false b a q in
    g (omega arith)

-- the first words of rows that begin at p 0, p 1, .., each at least s behind the one before
first_kept : (p : ℕ → ℕ) (s m : ℕ) → ((i j : ℕ) → i < j → p i + s ≤ p j) → (w r : List ℕ) (id : ℕ) → p id + length r ≤ length w → length r ≤ s
    → 0 < length r → get_or r 0 0 ≤ m → (i : ℕ) → get_or w (p i) 0 ≤ m → get_or (put w (p id) r) (p i) 0 ≤ m
first_kept p s m step w r id fits short some low i old =
    by_order i id (ltb i id) (ltb id i) refl refl
    (λ l. rw (get_d_put_before w (p id) r fits (p i) (omega (arith, step i id l))) old)
    (λ e. rw (e, ap (λ (k : ℕ). get_or (put w (p id) r) k 0) (sym (add-zero (p id))), get_d_put_in w (p id) r fits 0 some) low)
    (λ l. rw (get_d_put_after w (p id) r fits (p i) (omega (arith, step id i l))) old)

-- ---- each record

module _ (ns nd : ℕ) (d : List ℕ) (at : ℕ) (w : List ℕ) (f : List Float) (z : Sized ns nd w f) where
  abbrev id : ℕ
  id = field_at 4 d (at + 4)

  abbrev list : List ℕ
  list = count_of nd d at ∷ table (count_of nd d at) (entry_of d at)

  count_low : count_of nd d at ≤ nd
  unfolding count_of
  count_low = omega arith

  list_short : length list ≤ 129
  list_short = omega (arith, length_table (count_of nd d at) (entry_of d at), count_low)

  list_inside : id < ns → id * 129 + length list ≤ length w
  list_inside h = omega (arith, list_short)

  list_sized : Sized ns nd (with_list ns (count_of nd d at) d at w) f
  unfolding with_list
  list_sized =
      cond_keeps (λ (u : List ℕ). Sized ns nd u f) (ltb id ns)
      (λ t.
      record {
        splitters = z.splitters;
        destinations = z.destinations;
        words_long = length_put w (id * 129) list (list_inside (ltb-true _ _ t)) ∙ z.words_long;
        floats_long = z.floats_long;
      })
      z

  list_lists : ListsFit ns nd w → ListsFit ns nd (with_list ns (count_of nd d at) d at w)
  unfolding with_list
  list_lists k =
      cond_keeps (ListsFit ns nd) (ltb id ns)
      (λ t i h. first_kept (λ j. j * 129) 129 nd (λ i j l. omega arith) w list id (list_inside (ltb-true _ _ t)) list_short (omega arith) count_low i (k i h))
      k

  list_flags : FlagsFit ns nd w → FlagsFit ns nd (with_list ns (count_of nd d at) d at w)
  unfolding with_list
  list_flags k =
      cond_keeps (FlagsFit ns nd) (ltb id ns)
      (λ t i h.
      let l = ltb-true _ _ t in
      rw (get_d_put_after w (id * 129) list (list_inside l) (ns * 129 + i * 2) (omega (arith, list_short))) (k i h))
      k

  abbrev pair : List ℕ
  pair = used_of d at ∷ field_at 4 d (at + 0x68) ∷ []

  pair_inside : id < nd → ns * 129 + id * 2 + length pair ≤ length w
  pair_inside h = omega arith

  used_low : used_of d at ≤ 1
  unfolding used_of flag_of
  used_low = cond_keeps (λ (n : ℕ). n ≤ 1) (eqb (field_at 1 d (at + 0x6c)) 0) (λ _. omega arith) (omega arith)

  volumes_long : length (volumes_of d at) ≡ 24
  volumes_long = length_table 24 (volume_of d at)

  floats_kept : id < nd → length (stored_floats ns id d at w f) ≡ length f
  unfolding stored_floats
  floats_kept h =
      let first : id * 48 + length (volumes_of d at) ≤ length f = omega (arith, volumes_long, z.floats_long) in
      let one = length_put f (id * 48) (volumes_of d at) first in
      let second : id * 48 + 24 + length (volumes_of d at) ≤ length (put f (id * 48) (volumes_of d at)) = omega (arith, volumes_long, z.floats_long) in
      cond_keeps (λ (x : List Float). length x ≡ length f) (newly_of (used_of d at) (get_or w (ns * 129 + id * 2) 0))
      (λ _. length_put (put f (id * 48) (volumes_of d at)) (id * 48 + 24) (volumes_of d at) second ∙ one)
      one

  row_sized : Sized ns nd (with_words ns nd d at w) (with_floats ns nd d at w f)
  unfolding with_words with_floats stored_words
  row_sized =
      record {
        splitters = z.splitters;
        destinations = z.destinations;
        words_long = cond_keeps (λ (u : List ℕ). length u ≡ ns * 129 + nd * 2) (ltb id nd)
            (λ t. length_put w (ns * 129 + id * 2) pair (pair_inside (ltb-true _ _ t)) ∙ z.words_long)
            z.words_long;
        floats_long = cond_keeps (λ (x : List Float). length x ≡ nd * 48) (ltb id nd)
            (λ t. floats_kept (ltb-true _ _ t) ∙ z.floats_long)
            z.floats_long;
      }

  row_lists : ListsFit ns nd w → ListsFit ns nd (with_words ns nd d at w)
  unfolding with_words stored_words
  row_lists k =
      cond_keeps (ListsFit ns nd) (ltb id nd)
      (λ t i h. rw (get_d_put_before w (ns * 129 + id * 2) pair (pair_inside (ltb-true _ _ t)) (i * 129) (omega arith)) (k i h))
      k

  row_flags : FlagsFit ns nd w → FlagsFit ns nd (with_words ns nd d at w)
  unfolding with_words stored_words
  row_flags k =
      cond_keeps (FlagsFit ns nd) (ltb id nd)
      (λ t i h. first_kept (λ j. ns * 129 + j * 2) 2 1 (λ i j l. omega arith) w pair id (pair_inside (ltb-true _ _ t)) (omega arith) (omega arith) used_low i (k i h))
      k

-- ---- the section

module _ (ns nd : ℕ) (d w : List ℕ) (f : List Float) (z : Sized ns nd w f) where
  -- the lengths of words and floats are kept
  pub sized_kept : Sized ns nd (splitters_of ns nd d w f).words (splitters_of ns nd d w f).floats
  sized_kept = section_keeps ns nd d (Sized ns nd) (λ at w f q. list_sized ns nd d at w f q) (λ at w f q. row_sized ns nd d at w f q) w f z

  pub lists_kept : ListsFit ns nd w → ListsFit ns nd (splitters_of ns nd d w f).words
  lists_kept k =
      (section_keeps ns nd d (λ w f. Sized ns nd w f × ListsFit ns nd w)
      (λ at w f q. (list_sized ns nd d at w f q.0, list_lists ns nd d at w f q.0 q.1))
      (λ at w f q. (row_sized ns nd d at w f q.0, row_lists ns nd d at w f q.0 q.1))
      w f (z, k)).1

  pub flags_kept : FlagsFit ns nd w → FlagsFit ns nd (splitters_of ns nd d w f).words
  flags_kept k =
      (section_keeps ns nd d (λ w f. Sized ns nd w f × FlagsFit ns nd w)
      (λ at w f q. (list_sized ns nd d at w f q.0, list_flags ns nd d at w f q.0 q.1))
      (λ at w f q. (row_sized ns nd d at w f q.0, row_flags ns nd d at w f q.0 q.1))
      w f (z, k)).1
