-- The sections of an update's input (mod.rs `Renderer::update`). Assumes nothing.
use Rattle.std.specs.Prelude.{ℕ, ◌+◌, ◌^◌, ◌<◌, List, slice_index}
use Rattle.std.proofs.Common.{arith}
use Rattle.fields.specs.Fields.{field_at, section_of}
use Rattle.fields.specs.Reads.{field_below}
use Rattle.params.specs.declared.sections.Sections.{Sections}

-- the sections, from their sizes in the header's order
abbrev pub laid_out : ℕ → ℕ → ℕ → ℕ → ℕ → ℕ → ℕ → Sections
laid_out behavior pools voices resources effects mixes sinks =
    let resources_at = 0x40 + behavior + pools in
    let voices_at = resources_at + resources in
    let effects_at = voices_at + voices in
    record {
      behavior_size = behavior;
      pools_size = pools;
      resources_at = resources_at;
      resources_size = resources;
      voices_at = voices_at;
      voices_size = voices;
      effects_at = effects_at;
      effects_size = effects;
      splitters_at = effects_at + effects;
      mixes_size = mixes;
      sinks_size = sinks;
    }

unfoldable pub sections_of : List ℕ → Sections
sections_of d =
    laid_out (field_at 4 d 0x04) (field_at 4 d 0x08) (field_at 4 d 0x0c) (field_at 4 d 0x10) (field_at 4 d 0x14) (field_at 4 d 0x18) (field_at 4 d 0x1c)

-- two of them; each is empty where it reaches past the input
abbrev pub voices_section : List ℕ → List ℕ
voices_section input = section_of input (sections_of input).voices_at (sections_of input).voices_size

abbrev pub resources_section : List ℕ → List ℕ
resources_section input = section_of input (sections_of input).resources_at (sections_of input).resources_size

-- sizes are 32 bits, so that places are far below the largest number
pub record Near (s : Sections) : Type 0 where
  pub behavior_size : s.behavior_size < 2 ^ 32
  pub pools_size : s.pools_size < 2 ^ 32
  pub resources_at_lem : s.resources_at < 2 ^ 36
  pub resources_size : s.resources_size < 2 ^ 32
  pub voices_at : s.voices_at < 2 ^ 36
  pub voices_size : s.voices_size < 2 ^ 32
  pub effects_at : s.effects_at < 2 ^ 36
  pub effects_size : s.effects_size < 2 ^ 32
  pub splitters_at : s.splitters_at < 2 ^ 36
  pub mixes_size : s.mixes_size < 2 ^ 32
  pub sinks_size : s.sinks_size < 2 ^ 32

pub laid_near : (b p v r e m k : ℕ) → b < 2 ^ 32 → p < 2 ^ 32 → v < 2 ^ 32 → r < 2 ^ 32 → e < 2 ^ 32 → m < 2 ^ 32 → k < 2 ^ 32
    → Near (laid_out b p v r e m k)
laid_near b p v r e m k hb hp hv hr he hm hk = record {
  behavior_size = hb;
  pools_size = hp;
  resources_at_lem = omega arith;
  resources_size = hr;
  voices_at = omega arith;
  voices_size = hv;
  effects_at = omega arith;
  effects_size = he;
  splitters_at = omega arith;
  mixes_size = hm;
  sinks_size = hk;
}

-- the sections of any bytes
pub sections_near : (d : List ℕ) → ((i : ℕ) → slice_index d i < 256) → Near (sections_of d)
unfolding sections_of
sections_near d h = let w : (o : ℕ) → field_at 4 d o < 2 ^ 32 = λ o. field_below 4 d o h in laid_near _ _ _ _ _ _ _ (w 0x04) (w 0x08) (w 0x0c) (w 0x10) (w 0x14) (w 0x18) (w 0x1c)
