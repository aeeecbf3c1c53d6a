-- Worked examples of the sizes, each what a definition gives beside what is to come out. Assumes nothing.
use Rattle.std.specs.Prelude.{◌≡◌, ℕ, ◌+◌, ◌-◌, ◌^◌, refl}
use Rattle.params.specs.declared.params.Params.{Params}
use Rattle.params.specs.Sizes.{revision_of, pools_of, info_bytes, fixed_of, effects_bytes, reply_length}

-- parameters with so many effects and this revision word, all else 0
abbrev pub some : ℕ → ℕ → Params
some effects revision = record {
  sample_rate = 0;
  sample_count = 0;
  mix_buffers = 0;
  sub_mixes = 0;
  voices = 0;
  sinks = 0;
  effects = effects;
  splitters = 0;
  splitter_destinations = 0;
  revision = revision;
}

-- the effects' bytes of three effects, where the expected size exceeds the rest by n
unfoldable pub excess : ℕ → ℕ
excess n = let p = some 3 0 in effects_bytes p (fixed_of p + n)

-- revision words: 0 goes round, 0x35564552 ("REV5") is 5
pub revisions : (revision_of (some 0 0) ≡ 2 ^ 32 - 48) × (revision_of (some 0 0x35564552) ≡ 5)
unfolding revision_of
revisions = (refl, refl)

-- the reply of the session program's example is 272 bytes
pub plain : reply_length (some 0 0x35564552) 272 ≡ 272
unfolding reply_length effects_bytes fixed_of pools_of info_bytes revision_of
plain = refl
