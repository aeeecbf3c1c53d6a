-- `Sections::read` meets its contract: sizes of 32 bits, and sums of five of them at most. Assumes nothing.
use Rattle.std.proofs.Common.{arith}
use Rattle.params.specs.Sections.{laid_out, sections_of, laid_near}
use Rattle.params.proofs.sections.Sections.read.Goals as goal

pub returns : goal.returns
unfolding sections_of
returns c = record {
  value = λ k. laid_out
      (c.u32_at-behavior_size.ensures k)
      (c.u32_at-pools_size.ensures k)
      (c.u32_at-voices_size.ensures k)
      (c.u32_at-resources_size.ensures k)
      (c.u32_at-effects_size.ensures k)
      (c.u32_at.ensures k)
      (c.u32_at-2.ensures k);
  near = laid_near _ _ _ _ _ _ _ (omega arith) (omega arith) (omega arith) (omega arith) (omega arith) (omega arith) (omega arith);
}
