-- What single stores leave is the row that the definitions put. Assumes nothing.
use mathlib.Core.Path.{◌≡◌, refl, ap, sym, ◌∙◌}
use mathlib.Core.Bool.{Bool, true, false}
use mathlib.Core.List.{List, [], ◌∷◌}
use Prim.Native.Nat.{ℕ, ◌+◌, ◌*◌, ◌≤◌, ◌<◌}
use native.Mathlib.Omega.{arith}
use borrow.Author.Tests.{lt-ltb, le-ltb, eq-eqb, ne_eqb}
use Rattle.std.specs.Prelude.{cond, not, ◌&&◌, eqb, ◌⊎◌}
use Rattle.std.proofs.Math.Logic.{⊎_elim}
use lib.Ieee.{Float}
use lib.ListN.{length, set, get_or, length-set}
use Rattle.fields.specs.Fields.{field_at, flag_at}
use Rattle.rows.specs.Rows.{put, put_one, put_more}
use Rattle.rows.specs.Tables.{table, length_table}
use Rattle.desk.specs.Records.{float_at, word_of}
use Rattle.splitters.specs.Lists.{splitter_magic, destination_magic, entry_of, with_list, next_of}
use Rattle.splitters.specs.Destinations.{flag_of, used_of, newly_of, volume_of, volumes_of, stored_words, stored_floats, with_words, with_floats}

-- an element, and a row behind it
put_first : (s : List ℕ) (at x : ℕ) (r : List ℕ) → at + 1 + length r ≤ length s → put (set s at x) (at + 1) r ≡ put s at (x ∷ r)
put_first s at x r h = put_more s at 1 (x ∷ []) r refl h (put_one s at x (omega arith)) refl

module _ (ns n : ℕ) (d : List ℕ) (at : ℕ) (w : List ℕ) {id : ℕ} (e : id ≡ field_at 4 d (at + 4)) where
  pub list_stored : id < ns → ns * 129 ≤ length w → n ≤ 128
      → put (set w (id * 129) n) (id * 129 + 1) (table n (entry_of d at)) ≡ with_list ns n d at w
  unfolding with_list
  list_stored h fits few =
      put_first w (id * 129) n (table n (entry_of d at)) (omega (arith, length_table n (entry_of d at))) ∙ simp (← e, lt-ltb _ _ h)

  pub list_kept : ns ≤ id → w ≡ with_list ns n d at w
  unfolding with_list
  list_kept h = simp (← e, le-ltb _ _ h)

-- a byte's flag as a word, and whether a destination comes into use, by the test whether the byte is 0
flag_word : (e : Bool) → word_of (not e) ≡ cond e 0 1
flag_word true = refl
flag_word false = refl

newly_flag : (e : Bool) (before : ℕ) → cond (eqb (cond e 0 1) 0) false (eqb before 0) ≡ (not e && eqb before 0)
newly_flag true before = refl
newly_flag false before = refl

module _ (d : List ℕ) (at : ℕ) where
  pub used_word : {b : Bool} {used : ℕ} → b ≡ flag_at d (at + 0x6c) → used ≡ word_of b → used ≡ used_of d at
  unfolding flag_at used_of flag_of
  used_word f e = e ∙ ap word_of f ∙ flag_word (eqb (field_at 1 d (at + 0x6c)) 0)

  newly_used : (before : ℕ) → newly_of (used_of d at) before ≡ (flag_at d (at + 0x6c) && eqb before 0)
  unfolding flag_at used_of flag_of newly_of
  newly_used before = newly_flag (eqb (field_at 1 d (at + 0x6c)) 0) before

  volumes_read : table 24 (float_at d (at + 8)) ≡ volumes_of d at
  unfolding float_at volume_of
  volumes_read = refl

module _ (ns id : ℕ) (d : List ℕ) (at : ℕ) (w : List ℕ) where
  pub words_stored : {used mix : ℕ} → used ≡ used_of d at → mix ≡ field_at 4 d (at + 0x68) → ns * 129 + id * 2 + 2 ≤ length w
      → set (set w (ns * 129 + id * 2) used) (ns * 129 + id * 2 + 1) mix ≡ stored_words ns id d at w
  unfolding stored_words
  words_stored {used} {mix} e m fits =
      put_one (set w (ns * 129 + id * 2) used) (ns * 129 + id * 2 + 1) mix (simp length-set (omega arith))
      ∙ put_first w (ns * 129 + id * 2) used (mix ∷ []) (omega arith)
      ∙ simp (e, m)

  module _ (f : List Float) {g : List Float} (p : g ≡ put f (id * 48) (table 24 (float_at d (at + 8)))) {b : Bool} (q : b ≡ flag_at d (at + 0x6c)) where
    abbrev before : ℕ
    before = get_or w (ns * 129 + id * 2) 0

    -- it comes into use
    pub floats_new : {x : List Float} → b ≡ true → before ≡ 0 → x ≡ put g (id * 48 + 24) (table 24 (float_at d (at + 8))) → x ≡ stored_floats ns id d at w f
    unfolding stored_floats
    floats_new t o z = z ∙ rw (p, volumes_read d at) (simp (newly_used d at before, sym q ∙ t, eq-eqb _ _ o))

    -- it was in use before, or is not now
    pub floats_old : ((b ≡ true) × (before ≡ 0 → ⊥)) ⊎ (b ≡ false) → g ≡ stored_floats ns id d at w f
    unfolding stored_floats
    floats_old t =
        p ∙ rw (volumes_read d at)
        (⊎_elim (λ (h : (b ≡ true) × (before ≡ 0 → ⊥)). simp (newly_used d at before, sym q ∙ h.0, ne_eqb _ _ h.1))
        (λ (h : b ≡ false). simp (newly_used d at before, sym q ∙ h)) t)

module _ (ns nd : ℕ) (d : List ℕ) (at : ℕ) (w : List ℕ) (f : List Float) {id : ℕ} (e : id ≡ field_at 4 d (at + 4)) where
  pub taken : id < nd → (stored_words ns id d at w ≡ with_words ns nd d at w) × (stored_floats ns id d at w f ≡ with_floats ns nd d at w f)
  unfolding with_words with_floats
  taken h = (simp (← e, lt-ltb _ _ h), simp (← e, lt-ltb _ _ h))

  pub passed : nd ≤ id → (w ≡ with_words ns nd d at w) × (f ≡ with_floats ns nd d at w f)
  unfolding with_words with_floats
  passed h = (simp (← e, le-ltb _ _ h), simp (← e, le-ltb _ _ h))

-- a record follows right behind one with n entries
pub next_marked : (n : ℕ) (d : List ℕ) (at : ℕ) {magic : ℕ} → magic ≡ field_at 4 d (at + 0x10 + n * 4)
    → (magic ≡ splitter_magic) ⊎ ((magic ≡ splitter_magic → ⊥) × (magic ≡ destination_magic)) → at + 0x10 + n * 4 ≡ next_of n d at
unfolding next_of
next_marked n d at {magic} e =
    ⊎_elim (λ (h : magic ≡ splitter_magic). simp (← e, eq-eqb _ _ h))
    (λ (h : (magic ≡ splitter_magic → ⊥) × (magic ≡ destination_magic)). simp (← e, ne_eqb _ _ h.0, eq-eqb _ _ h.1))
