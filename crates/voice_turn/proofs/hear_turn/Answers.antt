-- `voice_turn::hear_turn` meets its contract: what is played is the material of the turn. Assumes nothing.
use Prim.Native.Nat.{◌*◌}
use mathlib.Core.Path.{◌∙◌}
use Rattle.rows.specs.Rows.{put}
use Rattle.sound_rows.specs.SoundRow.{contexts_of, history_of}
use Rattle.playing.specs.Playing.{played_sound}
use Rattle.hearing.specs.Hearing.{sound_in}
use Rattle.voice_turn.specs.Made.{material_made, heard_made, needed_upto, turn_ready, table_told, turn_rows}
use borrow.Author.Rules.{rules}
use Rattle.voice_turn.proofs.hear_turn.Goals as goal

pub hear-requires : goal.hear-requires
hear-requires c =
    let q = c.requires.fact_1 in
    let e = c.source_of-s.ensures c.args.ranges.now in
    let i = c.requires.fact_2 in record { ready = turn_ready q e c.queue_of.ensures; needed_in_bounds = (q.row, needed_upto q e c.queue_of.ensures); table_value = table_told q e c.queue_of.ensures; n_bound = (q.samples, turn_rows q e c.queue_of.ensures); k_bound = (i.few, i.contexts, i.history) }

pub returns : goal.returns
returns c =
    let w = material_made c.requires.fact_1 (c.source_of-s.ensures c.args.ranges.now) c.queue_of.ensures
    (sound_in c.args.k c.args.contexts.now c.args.history.now) in record {
      contexts_after = c.hear.ensures.contexts_after ∙ (λ i. put c.args.contexts.now (c.args.k * 3) (contexts_of (played_sound (w i))));
      history_after = c.hear.ensures.history_after ∙ (λ i. put c.args.history.now (c.args.k * 18) (history_of (played_sound (w i))));
      out_after = heard_made c.requires.fact_1 (c.source_of-s.ensures c.args.ranges.now) c.queue_of.ensures
          (sound_in c.args.k c.args.contexts.now c.args.history.now) _ c.hear.ensures.out_after;
    }
