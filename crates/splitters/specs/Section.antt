-- The splitter section as a whole: what it leaves of the words and floats of ns splitters and nd destinations, and how many bytes it
-- takes (mixer.rs `update_splitters`). Assumes nothing.
use Rattle.std.specs.Prelude.{◌≡◌, cond, List, ℕ, ◌+◌, ◌*◌, ◌/◌, ◌≤◌, eqb, Float, length}
use Rattle.std.proofs.Common.{sym, ◌∙◌}
use borrow.Author.Tests.{eq-eqb, ne_eqb}
use Rattle.fields.specs.Fields.{field_at}
use Rattle.splitters.specs.Lists.{splitters_from}
use Rattle.splitters.specs.Destinations.{stride_of, destinations_from, Left, left}

-- words and floats that have the rows of ns splitters and nd destinations, and no more
pub record Sized (ns nd : ℕ) (w : List ℕ) (f : List Float) : Type 0 where
  pub splitters : ns ≤ 32
  pub destinations : nd ≤ 128
  pub words_long : length w ≡ ns * 129 + nd * 2
  pub floats_long : length f ≡ nd * 48

-- the section's first word, "SNDH"
abbrev pub header_magic : ℕ
header_magic = 0x48444e53

-- the Rust's `next_multiple_of(0x10)`
unfoldable pub rounded_up : ℕ → ℕ
rounded_up n = (n + 0xf) / 0x10 * 0x10

-- at most `lists` splitters from `at` on, and from where they end at most `count` destinations
unfoldable pub records_from : ℕ → ℕ → List ℕ → ℕ → ℕ → ℕ → List ℕ → List Float → Left
records_from ns nd d at lists count w f =
    let s = splitters_from ns nd d lists at w in
    let r = destinations_from ns nd d (stride_of d s.at count) count s.at s.words f in
    left (rounded_up r.at) r.words r.floats

-- the records behind the header, as many as it says
unfoldable pub records_of : ℕ → ℕ → List ℕ → List ℕ → List Float → Left
records_of ns nd d w f = records_from ns nd d 0x20 (field_at 4 d 4) (field_at 4 d 8) w f

-- nothing is read where there are no splitters, no destinations or no header
unfoldable pub splitters_of : ℕ → ℕ → List ℕ → List ℕ → List Float → Left
splitters_of ns nd d w f =
    let none = left 0 w f in
    cond (eqb ns 0) none (cond (eqb nd 0) none (cond (eqb (field_at 4 d 0) header_magic) (records_of ns nd d w f) none))

-- ---- each way through the section, as the tests find it

module _ (ns nd : ℕ) (d w : List ℕ) (f : List Float) where
  -- the counts are read from the header
  pub records_read : {n m : ℕ} → n ≡ field_at 4 d 4 → m ≡ field_at 4 d 8 → records_from ns nd d 0x20 n m w f ≡ records_of ns nd d w f
  unfolding records_of
  records_read e₁ e₂ = rw (e₁, e₂)

  pub no_splitters : ns ≡ 0 → left 0 w f ≡ splitters_of ns nd d w f
  unfolding splitters_of
  no_splitters e = simp (eq-eqb _ _ e)

  module _ (some : ns ≡ 0 → ⊥) where
    pub no_destinations : nd ≡ 0 → left 0 w f ≡ splitters_of ns nd d w f
    unfolding splitters_of
    no_destinations e = simp (ne_eqb _ _ some, eq-eqb _ _ e)

    module _ (others : nd ≡ 0 → ⊥) {magic : ℕ} (m : magic ≡ field_at 4 d 0) where
      pub no_header : (magic ≡ header_magic → ⊥) → left 0 w f ≡ splitters_of ns nd d w f
      unfolding splitters_of
      no_header e = simp (ne_eqb _ _ some, ne_eqb _ _ others, ← m, ne_eqb _ _ e)

      pub header : magic ≡ header_magic → records_of ns nd d w f ≡ splitters_of ns nd d w f
      unfolding splitters_of
      header e = simp (ne_eqb _ _ some, ne_eqb _ _ others, eq-eqb _ _ (sym m ∙ e))
