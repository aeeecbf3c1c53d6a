-- `render::render_of` meets its contract: the revision decides on the loop points. Assumes nothing.
use Rattle.std.proofs.Common.{leb, rules}
use Rattle.ranges.specs.Ranges.{ranges_of}
use Rattle.render.specs.Render.{render_of}
use Rattle.render.proofs.render_of.Goals as goal

pub returns : goal.returns
unfolding render_of
returns c numbers =
    λ i. record {
      sample_count = c.args.p.sample_count;
      sample_rate = c.args.p.sample_rate;
      buffers_v2 = leb 8 (c.revision_number.ensures i);
      ranges = ranges_of numbers;
    }
