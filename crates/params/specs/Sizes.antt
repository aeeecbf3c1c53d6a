-- The sizes of a reply (mod.rs `Params`), and the counts that are allowed. Assumes nothing.
use Rattle.std.specs.Prelude.{ℕ, ◌+◌, ◌-◌, ◌*◌, ◌/◌, ◌%◌, ◌^◌, ◌≤◌, cond, ◌&&◌, nat_le, nat_lt}
use Rattle.params.specs.declared.params.Params.{Params}

-- the counts that are allowed (docs/QUESTIONS.md)
pub record Allowed (p : Params) : Type 0 where
  pub some_samples : 1 ≤ p.sample_count
  pub samples : p.sample_count ≤ 256
  pub mix_buffers_lem : p.mix_buffers ≤ 96
  pub sub_mixes : p.sub_mixes ≤ 31
  pub voices : p.voices ≤ 64
  pub sinks : p.sinks ≤ 8
  pub effects : p.effects ≤ 64
  pub splitters : p.splitters ≤ 32
  pub destinations : p.splitter_destinations ≤ 128

-- the revision: the word's top byte less 48, going round at 2 ^ 32
unfoldable pub revision_of : Params → ℕ
revision_of p = (p.revision / 2 ^ 24 + (2 ^ 32 - 48)) % 2 ^ 32

-- a memory pool for each effect and each wave buffer
unfoldable pub pools_of : Params → ℕ
pools_of p = p.effects + p.voices * 4

-- render info: 16 bytes from revision 5
unfoldable pub info_bytes : Params → ℕ
info_bytes p = cond (nat_le 5 (revision_of p)) 0x10 0

-- a reply without its effects: header, pools, voices, sinks, performance, behaviour, render info
unfoldable pub fixed_of : Params → ℕ
fixed_of p = 0x40 + pools_of p * 0x10 + p.voices * 0x10 + p.sinks * 0x20 + 0x10 + 0xb0 + info_bytes p

-- the effects: what the expected size exceeds the rest by, rounded down to whole bytes for each effect
unfoldable pub effects_bytes : Params → ℕ → ℕ
effects_bytes p expected = cond (nat_lt 0 p.effects && nat_lt (fixed_of p) expected) ((expected - fixed_of p) / p.effects * p.effects) 0

unfoldable pub reply_length : Params → ℕ → ℕ
reply_length p expected = fixed_of p + effects_bytes p expected
