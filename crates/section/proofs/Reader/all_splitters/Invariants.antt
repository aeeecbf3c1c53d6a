use Rattle.std.proofs.Common.{◌≡◌, length, ◌+◌, ◌<◌, ◌^◌}
use Rattle.splitters.specs.Walk.{Walking}
use Rattle.splitters.specs.Lists.{lists, splitter_at, splitter_step}
use Rattle.section.proofs.Reader.all_splitters.Given as goal

abbrev pub invariant-loop-k : goal.invariant-loop-k
invariant-loop-k l = record {
  same_block : l.q.block ≡ l.self.block;
  walking : Walking (splitter_at l.self.block.now) (splitter_step l.ns l.nd l.self.block.now) l.count
      (lists l.self.at l.initial.words) (lists l.q.at l.words) l.k;
  words_len : length l.words ≡ length l.initial.words;
  near : l.q.at < 2 ^ 63 + 540;
}
