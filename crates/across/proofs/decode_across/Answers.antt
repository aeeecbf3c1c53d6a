-- `across::decode_across` meets its contract: the front that is lent comes back as the read, and is decoded. Assumes nothing.
use mathlib.Core.Path.{sym, ap, ◌∙◌}
use Prim.Native.Nat.{ℕ}
use lib.ListN.{length, drop, replicate}
use lib.Seq.{length-take-le, take_at}
use Rattle.ranges.specs.Ranges.{ranges_of, readable_of}
use Rattle.memory.specs.Memory.{read_of}
use Rattle.memory.proofs.Bytes.{length_read}
use Rattle.across.specs.Lengths.{adpcm_bytes}
use Rattle.across.proofs.SameBytes.{decodes_same}
use Rattle.across.proofs.decode_across.Goals as goal

pub slice_bounds-gather-end : goal.slice_bounds-gather-end
slice_bounds-gather-end c =
    sym (length-take-le c.args.bytes (replicate {A = ℕ} adpcm_bytes 0) c.requires.bytes_value.1)

pub gather-requires : goal.gather-requires
gather-requires c =
    let long = length-take-le c.args.bytes (replicate {A = ℕ} adpcm_bytes 0) c.requires.bytes_value.1 in
    ap (readable_of (ranges_of c.args.memory.now.ranges.now) c.args.addr) long ∙ c.requires.bytes_value.0

pub returns : goal.returns
returns c =
    let bytes = c.args.bytes in
    let room = replicate {A = ℕ} adpcm_bytes 0 in
    let rs = ranges_of c.args.memory.now.ranges.now in
    let m = c.args.memory.now.bytes.now in
    let read = c.gather.ensures ∙ ap (read_of rs m c.args.addr) (length-take-le bytes room c.requires.bytes_value.1) in
    let long = ap length read ∙ length_read m rs c.args.addr bytes c.args.memory.now.ascending c.requires.bytes_value.0 in
    decodes_same c.args.start c.args.want c.args.coefficients.now c.args.x (take_at c.gather.new.out (drop bytes room) bytes long ∙ read)
    c.decode_adpcm.ensures
