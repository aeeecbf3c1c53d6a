-- `hearing::play` meets its contract: what is lent is as long as the turn takes. Assumes nothing.
use Prim.Native.Nat.{ℕ, ◌+◌, ◌-◌, ◌*◌, ◌≤◌}
use native.Mathlib.Nat.{mul-le-mul}
use native.Mathlib.Omega.{arith}
use mathlib.Core.Path.{◌≡◌, sym, ◌∙◌}
use lib.ListN.{length, take}
use lib.Seq.{length-take-le}
use Rattle.plan.specs.Source.{over}
use Rattle.playing.specs.Playing.{Material, material, played_sound, played_out}
use Rattle.hearing.specs.Laws.{played_front}
use Rattle.hearing.proofs.play.Goals as goal
use Rattle.hearing.proofs.play.Goals.{Start}

-- the lengths of the two parts that are lent
row_long : (s : Start) → length (take (3 + s.args.needed) s.args.src.now) ≡ 3 + s.args.needed
row_long s = length-take-le _ _ s.requires.needed_in_bounds.0

rows_long : (s : Start) → length (take (s.args.s.channels * s.args.n) s.args.out.now) ≡ s.args.s.channels * s.args.n
rows_long s = length-take-le _ _ s.requires.n_bound.1

-- six rows of 256 at most
few : (s : Start) → s.args.s.channels * s.args.n ≤ 1536
few s = mul-le-mul s.requires.ready.channels s.requires.n_bound.0

-- what the sound is made from, if `needed` samples are
abbrev from : Start → ℕ → Material
from s needed =
    let a = s.args in
    material a.q (over a.s a.ranges.now) a.memory.now needed a.sound a.ratio a.fraction a.n

pub overflow_mul-rows : goal.overflow_mul-rows
overflow_mul-rows c = omega (arith, few (goal.at.overflow_mul-rows c).Start)

pub overflow_cast-rows : goal.overflow_cast-rows
overflow_cast-rows c = omega (arith, few (goal.at.overflow_cast-rows c).Start)

pub slice_bounds-play_channels-end-2 : goal.slice_bounds-play_channels-end-2
slice_bounds-play_channels-end-2 c = sym (row_long (goal.at.slice_bounds-play_channels-end-2 c).Start)

pub slice_bounds-play_channels-end-4 : goal.slice_bounds-play_channels-end-4
slice_bounds-play_channels-end-4 c = sym (rows_long (goal.at.slice_bounds-play_channels-end-4 c).Start)

pub play_channels-requires : goal.play_channels-requires
play_channels-requires c = record { ready = c.requires.ready; table_value = c.requires.table_value; n_in_bounds = (omega (arith, rows_long (goal.at.play_channels-requires c).Start), c.requires.n_bound.0) }

pub returns : goal.returns
returns c =
    let e : length (take (3 + c.args.needed) c.args.src.now) - 3 ≡ c.args.needed = omega (arith, row_long (goal.at.returns c).Start) in record {
      value = c.play_channels.ensures.value ∙ (λ i. played_sound (from (goal.at.returns c).Start (e i)));
      out_after = played_front (from (goal.at.returns c).Start c.args.needed) c.args.out.now _ c.requires.n_bound.1
          (c.play_channels.ensures.out_after ∙ (λ i. played_out (from (goal.at.returns c).Start (e i)) (take (c.args.s.channels * c.args.n) c.args.out.now)));
    }
