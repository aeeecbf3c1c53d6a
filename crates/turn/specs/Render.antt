-- What a render gives to each voice: its samples, the renderer's rate, whether the revision is 8 or later, and the ranges of sample memory.
use Rattle.std.specs.Prelude.{ℕ, Bool, List}
use Rattle.ranges.specs.Ranges.{Range, ranges_of}
use Rattle.turn.specs.declared.Render.{Render as Plain}

pub record Render : Type 0 where
  pub sample_count : ℕ
  pub sample_rate : ℕ
  pub buffers_v2 : Bool
  pub ranges : List Range

-- the code's struct, over ranges that are lent as numbers
abbrev pub render_over : Plain → List ℕ → Render
render_over r numbers = record {
  sample_count = r.sample_count;
  sample_rate = r.sample_rate;
  buffers_v2 = r.buffers_v2;
  ranges = ranges_of numbers;
}
