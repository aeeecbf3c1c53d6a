-- What the functions of a turn put together is what their definitions say. Assumes nothing.
use Rattle.std.specs.Prelude.{◌≡◌, ℕ, ◌≤◌, T, Float}
use Rattle.std.proofs.Common.{◌∙◌}
use Rattle.floats.specs.Unit.{in_unit}
use Rattle.resample.specs.Defs.{needed_of, next_of}
use Rattle.voice.specs.declared.queue.Queue.{Queue}
use Rattle.voice.specs.declared.Voice.{Voice}
use Rattle.voice.specs.Voice.{queue_of}
use Rattle.plan.specs.Source.{Source}
use Rattle.plan.specs.declared.rounds.Plan.{Plan}
use Rattle.plan.specs.Rounds.{plan_of, without_acts}
use Rattle.turn.specs.Render.{Render}
use Rattle.turn.specs.declared.Turn.{Turn}
use Rattle.turn.specs.Turn.{with, ratio_of, source_of, needed_by, planned_by, previous_of, fraction_of, finished, turn_of, told}
use Rattle.turn.specs.Laws.{needed_few}

-- a ratio, and the samples that it needs
module _ (v : Voice) (r : Render) {ratio : Float} {n : ℕ} (hr : ratio ≡ ratio_of r.sample_rate v) (hn : n ≡ needed_of v.fraction ratio r.sample_count) where
  needed_is : n ≡ needed_by v r
  unfolding needed_by
  needed_is = hn ∙ (λ i. needed_of v.fraction (hr i) r.sample_count)

  pub needed_upto : T (in_unit v.fraction) → r.sample_count ≤ 256 → n ≤ 4097
  unfolding turn_of
  needed_upto f l = rw needed_is (needed_few v r f l)

  -- with the queue, the source, their plan, the next fraction and the previous volume, a turn
  pub turn_made : {q : Queue} {s : Source} {p : Plan} {next previous : Float} {w : Voice} → q ≡ queue_of v → s ≡ source_of v r
      → p ≡ without_acts (plan_of q s n)
      → next ≡ next_of v.fraction ratio r.sample_count → previous ≡ previous_of v → w ≡ with v.fresh previous p.queue next v
      → ◌≡◌ {A = Turn}
      (record { voice = w; plan = p; ratio = ratio; fraction = v.fraction; needed = n; from = v.previous_volume; to = v.volume })
      (told (turn_of v r))
  unfolding turn_of finished planned_by fraction_of
  turn_made hq hs hp hx hv hw =
      let p' = hp ∙ (λ i. without_acts (plan_of (hq i) (hs i) (needed_is i))) in
      let x' = hx ∙ (λ i. next_of v.fraction (hr i) r.sample_count) in
      let w' = hw ∙ (λ i. with v.fresh (hv i) (p' i).queue (x' i) v) in
      λ i. record { voice = w' i; plan = p' i; ratio = hr i; fraction = v.fraction; needed = needed_is i; from = v.previous_volume; to = v.volume }
