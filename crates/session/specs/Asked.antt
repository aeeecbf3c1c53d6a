-- Question 10 by the first part of it that is answered "no", and what follows from "yes". Assumes nothing.
use Rattle.std.specs.Prelude.{◌≡◌, refl, Bool, true, false, not, ◌&&◌, List, ℕ, ◌+◌, ◌≤◌, ◌<◌, leb, eqb, length}
use Rattle.std.proofs.Math.Path.{sym}
use Rattle.std.proofs.Common.{◌∙◌, true≢false}
use borrow.Author.Tests.{leb-true, le-leb, lt-leb, eq-eqb, ne_eqb, not-true, not-false}
use Rattle.params.specs.declared.params.Params.{Params}
use Rattle.params.specs.Laws.{and_false}
use Rattle.session.specs.Input.{parameters_size, parameters_of, memory_size, call_count, calls_of}
use Rattle.session.specs.Question.{small_of, calls_whole, accepted_of}

-- d's bytes; the parameters' count k; the memory's size m; whether the sizes are small, t
module _ (d : List ℕ) where
  pub too_long : 65536 < length d → false ≡ accepted_of d
  unfolding accepted_of
  too_long h = simp (lt-leb _ _ h)

  module _ {k : ℕ} (ek : k ≡ parameters_size d) where
    pub no_parameters : (k ≡ 0x34 → ⊥) → false ≡ accepted_of d
    unfolding accepted_of
    no_parameters h = simp (ne_eqb _ _ (λ q. h (ek ∙ q)), and_false)

  module _ {m : ℕ} (em : m ≡ memory_size d) where
    pub too_short : length d < 0x40 + m → false ≡ accepted_of d
    unfolding accepted_of
    too_short h = simp (lt-leb _ _ (rw em at h), and_false)

  module _ {t : Bool} (et : t ≡ small_of (parameters_of d)) where
    pub too_large : not t ≡ true → false ≡ accepted_of d
    unfolding accepted_of
    too_large h = simp (sym et ∙ not-true t h, and_false)

  pub all_else : {k m : ℕ} {t r : Bool} → length d ≤ 65536 → k ≡ parameters_size d → k ≡ 0x34 → m ≡ memory_size d → 0x40 + m ≤ length d
      → t ≡ small_of (parameters_of d) → not t ≡ false → r ≡ calls_whole (call_count d) (calls_of d) → r ≡ accepted_of d
  unfolding accepted_of
  all_else {t = t} h ek hk em hm et ht er = rw (le-leb _ _ h, eq-eqb _ _ (sym ek ∙ hk), le-leb _ _ (rw em at hm), sym et ∙ not-false t ht) er

-- ---- what follows from "yes"

-- the counts that the program has room for
pub record Small (p : Params) : Type 0 where
  pub samples : p.sample_count ≤ 64
  pub voices : p.voices ≤ 4
  pub sub_mixes : p.sub_mixes ≤ 3
  pub mix_buffers_lem : p.mix_buffers ≤ 12
  pub splitters : p.splitters ≤ 8
  pub destinations : p.splitter_destinations ≤ 8

and_left : (a b : Bool) → (a && b) ≡ true → a ≡ true
and_left true b h = refl
and_left false b h = h

and_right : (a b : Bool) → (a && b) ≡ true → b ≡ true
and_right true b h = h
and_right false b h = absurd (true≢false (sym h))

pub small_facts : (p : Params) → small_of p ≡ true → Small p
unfolding small_of
small_facts p h₆ =
    let t₁ = leb p.sample_count 64 in
    let t₂ = t₁ && leb p.voices 4 in
    let t₃ = t₂ && leb p.sub_mixes 3 in
    let t₄ = t₃ && leb p.mix_buffers 12 in
    let t₅ = t₄ && leb p.splitters 8 in
    let h₅ : t₅ ≡ true = and_left t₅ _ h₆ in
    let h₄ : t₄ ≡ true = and_left t₄ _ h₅ in
    let h₃ : t₃ ≡ true = and_left t₃ _ h₄ in
    let h₂ : t₂ ≡ true = and_left t₂ _ h₃ in
    record {
      samples = leb-true _ _ (and_left t₁ _ h₂);
      voices = leb-true _ _ (and_right t₁ _ h₂);
      sub_mixes = leb-true _ _ (and_right t₂ _ h₃);
      mix_buffers_lem = leb-true _ _ (and_right t₃ _ h₄);
      splitters = leb-true _ _ (and_right t₄ _ h₅);
      destinations = leb-true _ _ (and_right t₅ _ h₆);
    }

pub accepted_small : (d : List ℕ) → accepted_of d ≡ true → Small (parameters_of d)
unfolding accepted_of
accepted_small d h =
    let t = leb (length d) 65536 && eqb (parameters_size d) 0x34 && leb (0x40 + memory_size d) (length d) in
    small_facts (parameters_of d) (and_right t _ (and_left (t && small_of (parameters_of d)) _ h))
