-- What a record leaves of a voice: its numbers are in range, and what is not the record's is the voice's or a new voice's. Assumes nothing.
use Rattle.std.specs.Prelude.{◌≡◌, ℕ, zero, suc, ◌<◌, ◌≤◌, Bool, true, false, List, length, pos, slice_index, Float}
use native.Mathlib.Omega.{arith}
use Rattle.std.proofs.Math.Path.{refl, ap}
use Rattle.std.specs.Float.{fin}
use Rattle.voice.specs.declared.Voice.{Voice}
use Rattle.voice_records.specs.Record.{record_new, new_voice, renewed, channels_of, channel_id, id_at, ids_of, recorded_buffers, filled, recorded}

channels_least : (n : ℕ) → 1 ≤ channels_of n
channels_least n = omega arith

channels_most : (n : ℕ) → channels_of n ≤ 6
channels_most n = omega arith

pub id_below : (count : ℕ) (p : List ℕ) (c : ℕ) → 0 < count → id_at count p c < count
unfolding id_at channel_id
id_below count p c h = omega arith

ids_below : (count : ℕ) (p : List ℕ) → 0 < count → (c : ℕ) → c < 6 → slice_index (ids_of count p) c < count
unfolding ids_of
ids_below count p h zero b = id_below count p 0 h
ids_below count p h (suc zero) b = id_below count p 1 h
ids_below count p h (suc (suc zero)) b = id_below count p 2 h
ids_below count p h (suc (suc (suc zero))) b = id_below count p 3 h
ids_below count p h (suc (suc (suc (suc zero)))) b = id_below count p 4 h
ids_below count p h (suc (suc (suc (suc (suc zero))))) b = id_below count p 5 h
ids_below count p h (suc (suc (suc (suc (suc (suc c)))))) b = absurd (omega arith)

-- what holds of a new voice and of the one that was
renewed_either : (P : Voice → Type 0) (new : Bool) (v : Voice) → P new_voice → P v → P (renewed new v)
unfolding renewed
renewed_either P true v a b = a
renewed_either P false v a b = b

module _ (revision count : ℕ) (p : List ℕ) (v : Voice) where
  -- ---- what every record leaves

  pub recorded_in_use : (recorded revision count p v).in_use ≡ true
  unfolding recorded filled
  recorded_in_use = refl

  pub recorded_channels : (1 ≤ (recorded revision count p v).channels) × ((recorded revision count p v).channels ≤ 6)
  unfolding recorded filled
  recorded_channels = (channels_least _, channels_most _)

  pub recorded_base : (recorded revision count p v).base_index < 4
  unfolding recorded filled
  recorded_base = omega arith

  pub recorded_ids : 0 < count → (c : ℕ) → c < 6 → slice_index (recorded revision count p v).channel_ids c < count
  unfolding recorded filled
  recorded_ids = ids_below count p

  pub recorded_ids_length : length (recorded revision count p v).channel_ids ≡ 6
  unfolding recorded filled ids_of
  recorded_ids_length = refl

  pub recorded_buffers_length : length (recorded revision count p v).buffers ≡ 4
  unfolding recorded filled recorded_buffers
  recorded_buffers_length = refl

  pub recorded_valid_length : length v.valid ≡ 4 → length (recorded revision count p v).valid ≡ 4
  unfolding recorded filled new_voice
  recorded_valid_length h = renewed_either (λ u. length u.valid ≡ 4) (record_new p) v refl h

  pub recorded_index : v.index < 4 → (recorded revision count p v).index < 4
  unfolding recorded filled new_voice
  recorded_index h = renewed_either (λ u. u.index < 4) (record_new p) v (omega arith) h

  -- the fraction is the voice's or +0.0
  pub recorded_fraction : (P : Float → Type 0) → P (fin false 0 (pos 0)) → P v.fraction → P (recorded revision count p v).fraction
  unfolding recorded filled new_voice
  recorded_fraction P a b = renewed_either (λ u. P u.fraction) (record_new p) v a b

  -- ---- by whether the voice is new

  pub recorded_new : record_new p ≡ true → recorded revision count p v ≡ filled revision count p new_voice
  unfolding recorded renewed
  recorded_new h = rw h

  pub recorded_kept : record_new p ≡ false → recorded revision count p v ≡ filled revision count p v
  unfolding recorded renewed
  recorded_kept h = rw h

  pub played_new : record_new p ≡ true → (recorded revision count p v).played ≡ 0
  unfolding filled new_voice
  played_new h = ap (λ (u : Voice). u.played) (recorded_new h)

  pub played_kept : record_new p ≡ false → (recorded revision count p v).played ≡ v.played
  unfolding filled
  played_kept h = ap (λ (u : Voice). u.played) (recorded_kept h)

  pub consumed_new : record_new p ≡ true → (recorded revision count p v).consumed ≡ 0
  unfolding filled new_voice
  consumed_new h = ap (λ (u : Voice). u.consumed) (recorded_new h)

  pub consumed_kept : record_new p ≡ false → (recorded revision count p v).consumed ≡ v.consumed
  unfolding filled
  consumed_kept h = ap (λ (u : Voice). u.consumed) (recorded_kept h)

  pub fresh_new : record_new p ≡ true → (recorded revision count p v).fresh ≡ true
  unfolding filled new_voice
  fresh_new h = ap (λ (u : Voice). u.fresh) (recorded_new h)

  pub fresh_kept : record_new p ≡ false → (recorded revision count p v).fresh ≡ v.fresh
  unfolding filled
  fresh_kept h = ap (λ (u : Voice). u.fresh) (recorded_kept h)
