-- `across::frame` meets its contract: the front that is lent comes back as the read. Assumes nothing.
use mathlib.Core.Path.{sym, ap, ◌∙◌}
use Prim.Native.Nat.{ℕ}
use lib.ListN.{length, drop, replicate}
use lib.Seq.{length-take-le, take_at}
use Rattle.ranges.specs.Ranges.{ranges_of, readable_of}
use Rattle.memory.specs.Memory.{read_of}
use Rattle.memory.proofs.Bytes.{length_read}
use Rattle.across.specs.Lengths.{frame_bytes}
use Rattle.across.proofs.frame.Goals as goal

pub slice_bounds-gather-end : goal.slice_bounds-gather-end
slice_bounds-gather-end c =
    sym (length-take-le c.args.size (replicate {A = ℕ} frame_bytes 0) c.requires.size_value.1)

pub gather-requires : goal.gather-requires
gather-requires c =
    let long = length-take-le c.args.size (replicate {A = ℕ} frame_bytes 0) c.requires.size_value.1 in
    ap (readable_of (ranges_of c.args.memory.now.ranges.now) c.args.addr) long ∙ c.requires.size_value.0

pub returns : goal.returns
returns c =
    let size = c.args.size in
    let room = replicate {A = ℕ} frame_bytes 0 in
    let rs = ranges_of c.args.memory.now.ranges.now in
    let m = c.args.memory.now.bytes.now in
    let read = c.gather.ensures ∙ ap (read_of rs m c.args.addr) (length-take-le size room c.requires.size_value.1) in
    let long = ap length read ∙ length_read m rs c.args.addr size c.args.memory.now.ascending c.requires.size_value.0 in
    take_at c.gather.new.out (drop size room) size long ∙ read
