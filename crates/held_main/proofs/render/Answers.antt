-- `held_main::render` meets what a turn requires by its own tests, and lends as much of the row as the turn takes. Assumes nothing.
use Rattle.std.proofs.Common.{◌≡◌, ◌+◌, ◌≤◌, ◌<◌, ◌∙◌, ℕ, [], ◌∷◌, length, take, replicate, sym, subst, arith, length-take-le}
use Rattle.std.specs.Float.{binary32}
use Rattle.std.specs.Float.Ieee.{of_bits}
use Rattle.voice.specs.declared.queue.Queue.{Queue}
use Rattle.plan.specs.Source.{Source}
use Rattle.ranges.specs.Ranges.{range, ranges_of}
use Rattle.ranges.specs.Ascending.{none, more}
use Rattle.plan.specs.Rounds.{has_table}
use Rattle.turn.specs.Laws.{turn_table}
use Rattle.held_main.proofs.render.Goals as goal

-- the part of the row that is lent
row_long : (n : ℕ) → n ≤ 13 → length (take (3 + n) (replicate 16 (of_bits binary32 0))) ≡ 3 + n
row_long n h = length-take-le (3 + n) (replicate 16 (of_bits binary32 0)) (omega arith)

pub play_channels-sound-requires-clause-ready : goal.play_channels-sound-requires-clause-ready
unfolding ranges_of
play_channels-sound-requires-clause-ready g c =
    let m = c.args.memory.now in
    let s = c.source_of-s.ensures (0x10000 ∷ 0 ∷ length m ∷ []) in
    let q = c.queue_of-q.ensures in
    let n : c.plan_turn-t.result.needed ≤ 13 = omega arith in
    record {
      history = omega (arith, row_long _ n);
      long = omega (arith, row_long _ n);
      index = subst (λ (x : Queue). x.index < 4) (sym q) (omega (arith, c.if-v-gt3.false));
      some = subst (λ (x : Source). 0 < x.channels) (sym s) (omega (arith, c.if-v-ne1.false));
      channels = subst (λ (x : Source). x.channels ≤ 6) (sym s) (omega (arith, c.if-v-ne1.false));
      memory = more {e = 0} {r = range 0x10000 0 (length m)} (omega arith) (omega arith) (omega (arith, c.if-memory-gt8.false)) none;
    }

pub play_channels-sound-requires-clause-table_value : goal.play_channels-sound-requires-clause-table_value
play_channels-sound-requires-clause-table_value g c =
    let s = c.source_of-s.ensures (0x10000 ∷ 0 ∷ length c.args.memory.now ∷ []) in
    turn_table _ _ _ c.plan_turn-t.ensures ∙ (λ i. has_table (sym s i))
