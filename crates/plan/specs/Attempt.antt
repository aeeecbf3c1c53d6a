-- The plan of a decode (mixer.rs `decode`): how many samples a wave buffer gives from a place on, and what is read for them.
-- No byte of sample memory is looked at: only its ranges.
use Rattle.std.specs.Prelude.{ℕ, ◌+◌, ◌-◌, ◌*◌, ◌/◌, ◌%◌, ◌^◌, min, cond, ◌==◌, nat_le, Some, None}
use Rattle.ranges.specs.Ranges.{readable_of}
use Rattle.adpcm.specs.Places.{nibble_of, size_of}
use Rattle.adpcm.specs.Runs.{count_of}
use Rattle.adpcm.specs.declared.places.Sample.{Sample}
use Rattle.voice.specs.declared.wave.WaveBuffer.{WaveBuffer}
use Rattle.plan.specs.Source.{Source}
use Rattle.plan.specs.declared.Decode.{Decode}
use Rattle.plan.specs.declared.Decode.TheVariants.{Nothing, Pcm, Adpcm, Silence}
use Rattle.plan.specs.declared.attempt.Attempt.{Attempt}

-- the place of sample n
abbrev pub sample : ℕ → Sample
sample n = record { 0 = n }

-- nothing to be had
abbrev pub no_samples : Attempt
no_samples = record { got = None; decode = Nothing }

-- a read of len bytes that gives n samples, if it succeeds
abbrev pub if_read : Source → ℕ → ℕ → Attempt → Attempt
if_read s addr len a = cond (readable_of s.ranges addr len) a no_samples

-- PCM of a width: as many frames as the buffer has from start on, at most want
unfoldable pub pcm_plan : ℕ → Source → WaveBuffer → Sample → ℕ → Attempt
pcm_plan width s w start want =
    let frame = width * s.channels in
    let n = min want (w.size / frame - start.0) in
    let addr = (w.addr + start.0 * frame) % 2 ^ 64 in
    cond (n == 0) no_samples (if_read s addr (n * frame) (record { got = Some n; decode = Pcm width addr n }))

-- n samples of ADPCM; the bytes are decoded even where they hold no whole sample, since a header among them is kept
abbrev pub adpcm_got : ℕ → Decode → Attempt
adpcm_got n d = record { got = cond (n == 0) None (Some n); decode = d }

-- ADPCM: the bytes from the one that holds the start's nibble to the end of the wanted samples or of the buffer
unfoldable pub adpcm_plan : Source → WaveBuffer → Sample → ℕ → Attempt
adpcm_plan s w start want =
    let first = nibble_of start.0 / 2 in
    let last = min (size_of (start.0 + want)) w.size in
    let addr = (w.addr + first) % 2 ^ 64 in
    cond (nat_le last first) no_samples
    (if_read s addr (last - first) (adpcm_got (count_of (last - first) start.0 want) (Adpcm want addr (last - first) start)))

unfoldable pub decode_plan : Source → WaveBuffer → Sample → ℕ → Attempt
unfolding pcm_plan adpcm_plan
decode_plan s w start want =
    cond (want == 0) (record { got = Some 0; decode = Nothing })
    (cond (s.format == 2) (pcm_plan 2 s w start want)
    (cond (s.format == 5) (pcm_plan 4 s w start want)
    (cond (s.format == 6) (adpcm_plan s w start want)
    (record { got = Some want; decode = Silence want }))))
