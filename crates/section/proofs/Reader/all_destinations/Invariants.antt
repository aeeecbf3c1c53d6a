use Rattle.std.proofs.Common.{◌≡◌, length, ◌+◌, ◌<◌, ◌^◌}
use Rattle.splitters.specs.Walk.{Walking}
use Rattle.splitters.specs.Destinations.{left, destination_at, destination_step}
use Rattle.section.proofs.Reader.all_destinations.Given as goal

abbrev pub invariant-loop-k : goal.invariant-loop-k
invariant-loop-k l = record {
  same_block : l.q.block ≡ l.self.block;
  walking : Walking (destination_at l.self.block.now) (destination_step l.ns l.nd l.self.block.now l.size) l.count
      (left l.self.at l.initial.words l.initial.floats) (left l.q.at l.words l.floats) l.k;
  words_len : length l.words ≡ length l.initial.words;
  floats_len : length l.floats ≡ length l.initial.floats;
  near : l.q.at < 2 ^ 63 + 540;
}
