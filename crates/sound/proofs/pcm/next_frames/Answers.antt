-- `sound::next_frames` meets its contract: the frames that the stretch has whole lie in the slice. Assumes nothing.
use Prim.Native.Nat.{ℕ, ◌-◌, ◌*◌, ◌/◌, ◌≤◌, min}
use mathlib.Core.List.{◌++◌}
use mathlib.Core.Path.{◌≡◌, refl, ap, sym, subst, ◌∙◌}
use native.Mathlib.Nat.{one-mul, min-le_left, min-le_right, mul-le-mul_right, div-mul-le_self}
use native.Mathlib.Omega.{arith}
use lib.ListN.{drop}
use Rattle.ranges.specs.Ranges.{ranges_of, readable_of}
use Rattle.memory.specs.Memory.{read_of}
use Rattle.across.proofs.Lying.{Lies, lies}
use Rattle.across.specs.Lengths.{frame_bytes}
use Rattle.sound.specs.Sound.{pcm_of}
use Rattle.sound.proofs.Stretches.{frame_some, frame_le, FramesAsked, frames_cut}
use Rattle.sound.proofs.pcm.next_frames.Goals as goal
use Rattle.sound.proofs.pcm.next_frames.Goals.{After-min-whole, Start}

-- a frame's bytes
abbrev frame : Start → ℕ
frame c = c.args.width * c.args.channels

small : (c : Start) → frame c ≤ frame_bytes
small c = frame_le c.args.width c.args.channels c.requires.width_value c.requires.channels_bound.0

asked : (c : Start)
    → (FramesAsked c.args.width c.args.channels c.args.c c.args.n c.args.addr (ranges_of c.args.memory.now.ranges.now) c.args.memory.now.bytes.now c.args.out.now)
asked c = record {
  wide = c.requires.width_value;
  channel = c.requires.channels_bound.1;
  fits = c.requires.channels_bound.4;
  memory = c.args.memory.now.ascending;
  reads = c.requires.channels_value;
}

-- the frames that a stretch has whole fit it, and are no more than n
whole_le : (n room size : ℕ) {w : ℕ} → w ≡ min n (room / size) → (w ≤ n) × (w * size ≤ room)
whole_le n room size e =
    let q = room / size in
    let few = subst (λ (x : ℕ). x ≤ n) (sym e) (min-le_left n q) in
    let some = subst (λ (x : ℕ). x ≤ q) (sym e) (min-le_right n q) in
    (few, omega (arith, mul-le-mul_right size some, div-mul-le_self room size))

whole : (c : After-min-whole)
    → (c.min-whole.result ≤ c.args.n) × (c.min-whole.result * (c.args.width * c.args.channels) ≤ c.in-Some.s.room)
whole c = whole_le c.args.n c.in-Some.s.room ((c.args.width * c.args.channels)) c.min-whole.ensures

-- their bytes are a part of the slice
lying : (c : After-min-whole)
    → (Lies (ranges_of c.args.memory.now.ranges.now) c.args.memory.now.bytes.now c.args.addr (c.min-whole.result * (c.args.width * c.args.channels)) c.in-Some.s)
lying c =
    lies c.args.memory.now.bytes.now (omega arith) c.args.memory.now.ascending c.args.addr (c.min-whole.result * (c.args.width * c.args.channels))
    (sym c.stretch_at.ensures ∙ c.in-Some.is) (whole c).1

pub overflow_mul-frame : goal.overflow_mul-frame
overflow_mul-frame c = omega (arith, small (goal.at.overflow_mul-frame c).Start)

pub nonzero_div-s : goal.nonzero_div-s
nonzero_div-s c = frame_some c.args.width c.args.channels c.args.c c.requires.width_value c.requires.channels_bound.1

pub straddling_frame-requires : goal.straddling_frame-requires
straddling_frame-requires c =
    let one = (frames_cut (asked (goal.at.straddling_frame-requires c).Start) 1 (c.args.n - 1) (omega (arith, c.requires.channels_bound.2))).0 in
    let reads = sym (ap (readable_of (ranges_of c.args.memory.now.ranges.now) c.args.addr) (one-mul (frame (goal.at.straddling_frame-requires c).Start))) ∙ one in record { width_value = c.requires.width_value; channels_bound = (c.requires.channels_bound.0, c.requires.channels_bound.1, omega (arith, c.requires.channels_bound)); channels_value = reads }

pub overflow_mul-end : goal.overflow_mul-end
overflow_mul-end c = omega (arith, (whole (goal.at.overflow_mul-end c).After-min-whole).1)

pub overflow_add-end : goal.overflow_add-end
overflow_add-end c = omega (arith, (lying (goal.at.overflow_add-end c).After-min-whole).inside)

pub slice_bounds-frames-end : goal.slice_bounds-frames-end
slice_bounds-frames-end c = omega (arith, (lying (goal.at.slice_bounds-frames-end c).After-min-whole).inside)

pub frames-requires : goal.frames-requires
frames-requires c = record { width_value = c.requires.width_value; channels_bound = (c.requires.channels_bound.0, omega (arith, c.requires.channels_bound), omega (arith, c.requires.channels_bound, (whole (goal.at.frames-requires c).After-min-whole).0), omega (arith, c.requires.channels_bound, (whole (goal.at.frames-requires c).After-min-whole).0)) }

pub returns-then-whole-ne0 : goal.returns-then-whole-ne0
returns-then-whole-ne0 c =
    let n = c.min-whole.result in record {
      result_nonzero = (omega arith, (whole (goal.at.returns-then-whole-ne0 c).After-min-whole).0);
      out_after = c.frames.ensures
          ∙ (λ i. pcm_of c.args.width c.args.channels c.args.c ((lying (goal.at.returns-then-whole-ne0 c).After-min-whole).bytes refl i) n ++ drop n c.args.out.now);
    }

pub returns : goal.returns
returns c =
    let one = sym (one-mul (frame (goal.at.returns c).Start)) in record {
      result_nonzero = (omega arith, omega (arith, c.requires.channels_bound.2));
      out_after = c.straddling_frame.ensures
          ∙ (λ i.
          pcm_of c.args.width c.args.channels c.args.c (read_of (ranges_of c.args.memory.now.ranges.now) c.args.memory.now.bytes.now c.args.addr (one i)) 1
          ++ drop 1 c.args.out.now);
    }
