-- `sound::play_adpcm` meets its contract: the run on channel 0, and as many zeros on the others. Assumes nothing.
use Prim.Native.Nat.{◌+◌, ◌/◌, ◌≤◌, ◌<◌, ◌^◌}
use mathlib.Core.Path.{refl}
use native.Mathlib.Omega.{arith}
use Rattle.ranges.specs.Ranges.{ranges_of}
use Rattle.memory.proofs.Bytes.{length_read}
use Rattle.adpcm.specs.Runs.{count_le}
use Rattle.adpcm.specs.Places.{nibble_of, size_of}
use Rattle.adpcm.proofs.Spans.{span_le}
use Rattle.across.specs.Lengths.{adpcm_bytes}
use Rattle.plan.specs.Fits.{adpcm_formed}
use Rattle.sound.specs.Perform.{adpcm_first, adpcm_others}
use Rattle.sound.proofs.act.play_adpcm.Goals as goal
use Rattle.sound.proofs.act.play_adpcm.Goals.{Start}

-- where it starts, and how many bytes it reads
formed : (c : Start)
    → (c.args.start.0 < 2 ^ 32) × (nibble_of c.args.start.0 / 2 + c.args.bytes ≤ size_of (c.args.start.0 + c.args.want))
formed c = adpcm_formed c.args.addr c.args.bytes c.args.start c.args.want c.requires.bytes_value.1

-- at most the bytes that as many samples span
few : (c : Start) → c.args.bytes ≤ adpcm_bytes
few c = omega (arith, (formed c).1, span_le c.args.start.0 c.args.want c.requires.want_in_bounds.1)

pub decode_adpcm-r-requires : goal.decode_adpcm-r-requires
decode_adpcm-r-requires c = record { bytes_value = (c.requires.bytes_value.0, few (goal.at.decode_adpcm-r-requires c).Start); start_bound = (omega (arith, (formed (goal.at.decode_adpcm-r-requires c).Start).0), c.requires.want_in_bounds.0) }

pub returns-then-c-eq0 : goal.returns-then-c-eq0
returns-then-c-eq0 c =
    adpcm_first c.args.start c.args.want c.args.coefficients.now c.args.x c.if-c-eq0.true refl c.decode_adpcm-r.ensures

pub adpcm_count-n-requires : goal.adpcm_count-n-requires
adpcm_count-n-requires c =
    (omega (arith, (formed (goal.at.adpcm_count-n-requires c).Start).0), omega (arith, few (goal.at.adpcm_count-n-requires c).Start))

pub zeros-requires : goal.zeros-requires
zeros-requires c =
    omega (arith, c.adpcm_count-n.ensures, count_le c.args.bytes c.args.start.0 c.args.want, c.requires.want_in_bounds.0)

pub returns : goal.returns
returns c =
    let long = length_read c.args.memory.now.bytes.now (ranges_of c.args.memory.now.ranges.now) c.args.addr c.args.bytes c.args.memory.now.ascending c.requires.bytes_value.0 in
    adpcm_others c.args.c _ c.args.start c.args.want c.args.coefficients.now c.args.x c.if-c-eq0.false long c.adpcm_count-n.ensures
    c.zeros.ensures
