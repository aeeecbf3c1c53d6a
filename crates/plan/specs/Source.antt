-- What a fetch takes from its voice and from the render and does not change, with the ranges of sample memory.
use Rattle.std.specs.Prelude.{ℕ, Bool, List}
use Rattle.ranges.specs.Ranges.{Range, ranges_of}
use Rattle.plan.specs.declared.Source.{Source as Plain}

pub record Source : Type 0 where
  pub format : ℕ
  pub channels : ℕ
  pub decoding : ℕ
  pub data_source : ℕ
  pub buffers_v2 : Bool
  pub ranges : List Range

-- the code's struct, over ranges that are lent as numbers
abbrev pub over : Plain → List ℕ → Source
over s numbers = record {
  format = s.format;
  channels = s.channels;
  decoding = s.decoding;
  data_source = s.data_source;
  buffers_v2 = s.buffers_v2;
  ranges = ranges_of numbers;
}
