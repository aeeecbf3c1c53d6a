-- Questions 1 and 2 (docs/QUESTIONS.md): the counts that are allowed, as tests. Assumes nothing.
use Rattle.std.specs.Prelude.{◌≡◌, Bool, true, List, [], ◌∷◌, leb}
use Rattle.std.proofs.Common.{leb-true, le-leb}
use Rattle.params.specs.declared.params.Params.{Params}
use Rattle.params.specs.Sizes.{Allowed}
use Rattle.row_tests.specs.Tests.{every, every_at}

-- question 1
abbrev pub sample_tests : Params → List Bool
sample_tests p = leb 1 p.sample_count ∷ leb p.sample_count 256 ∷ []

unfoldable pub samples_allowed : Params → Bool
samples_allowed p = every (sample_tests p)

-- question 2
abbrev pub count_tests : Params → List Bool
count_tests p =
    leb p.mix_buffers 96
    ∷ leb p.sub_mixes 31
    ∷ leb p.voices 64
    ∷ leb p.sinks 8
    ∷ leb p.effects 64
    ∷ leb p.splitters 32
    ∷ leb p.splitter_destinations 128
    ∷ []

unfoldable pub counts_allowed : Params → Bool
counts_allowed p = every (count_tests p)

-- ---- both are what `Allowed` says

pub allowed_facts : (p : Params) → samples_allowed p ≡ true → counts_allowed p ≡ true → Allowed p
unfolding samples_allowed counts_allowed
allowed_facts p s c =
    let ts = every_at (sample_tests p) s in
    let tc = every_at (count_tests p) c in
    record {
      some_samples = leb-true _ _ (ts 0);
      samples = leb-true _ _ (ts 1);
      mix_buffers_lem = leb-true _ _ (tc 0);
      sub_mixes = leb-true _ _ (tc 1);
      voices = leb-true _ _ (tc 2);
      sinks = leb-true _ _ (tc 3);
      effects = leb-true _ _ (tc 4);
      splitters = leb-true _ _ (tc 5);
      destinations = leb-true _ _ (tc 6);
    }

pub samples_are : (p : Params) → Allowed p → samples_allowed p ≡ true
unfolding samples_allowed every
samples_are p a = simp (le-leb _ _ a.some_samples, le-leb _ _ a.samples)

pub counts_are : (p : Params) → Allowed p → counts_allowed p ≡ true
unfolding counts_allowed every
counts_are p a =
    simp (
      le-leb _ _ a.mix_buffers_lem,
      le-leb _ _ a.sub_mixes,
      le-leb _ _ a.voices,
      le-leb _ _ a.sinks,
      le-leb _ _ a.effects,
      le-leb _ _ a.splitters,
      le-leb _ _ a.destinations,
    )
