-- mixer.rs `update_channel_resources`. The floats of a channel resource are 48: mix 24, previous 24. Assumes nothing.
use Rattle.std.specs.Prelude.{◌≡◌, List, ℕ, ◌+◌, ◌*◌, ◌/◌, ◌≤◌, ◌<◌, min, length, Float}
use Rattle.std.proofs.Common.{◌∙◌, arith}
use Rattle.rows.specs.Rows.{put, length_put}
use Rattle.rows.specs.Folds.{up_to}
use Rattle.rows.specs.Loops.{up_to_keeps}
use Rattle.rows.specs.Tables.{table, length_table}
use Rattle.fields.specs.Fields.{section_of}
use Rattle.desk.specs.Records.{float_at}

-- record k of the section
unfoldable pub channel_record : List ℕ → ℕ → List ℕ
channel_record d k = section_of d (k * 0x70) 0x70

-- channel k's mix, from its record
unfoldable pub channel_step : List ℕ → ℕ → List Float → List Float
channel_step d k f = put f (k * 48) (table 24 (float_at (channel_record d k) 4))

-- one after the other, up to the first record that is not whole
unfoldable pub channels_of : List ℕ → ℕ → List Float → List Float
channels_of d n f = up_to (channel_step d) (min n (length d / 0x70)) f

-- the length stays
pub step_long : (d : List ℕ) (n k : ℕ) (f : List Float) → k < n → length f ≡ n * 48 → length (channel_step d k f) ≡ n * 48
unfolding channel_step
step_long d n k f b h =
    let fits : k * 48 + length (table 24 (float_at (channel_record d k) 4)) ≤ length f = rw length_table (omega arith) in
    length_put f (k * 48) _ fits ∙ h

pub length_channels : (d : List ℕ) (n : ℕ) (f : List Float) → length f ≡ n * 48 → length (channels_of d n f) ≡ n * 48
unfolding channels_of
length_channels d n f h =
    let m = min n (length d / 0x70) in
    up_to_keeps (λ g. length g ≡ n * 48) (channel_step d) m (λ k g b. step_long d n k g (omega arith)) m f (omega arith) h
