-- `plan::plan_round` meets its contract: the calls give the parts of `roundPlan`, by whether the decode is missing. Assumes nothing.
use Rattle.std.proofs.Common.{◌≡◌, ℕ, Bool, cond, List, get_or, refl, ap, sym, ◌∙◌}
use Rattle.voice.specs.Queue.{no_buffer, queue_at}
use Rattle.voice.specs.declared.wave.WaveBuffer.{WaveBuffer}
use Rattle.voice.specs.declared.queue.Queue.{Queue}
use Rattle.plan.specs.declared.Act.{Act}
use Rattle.plan.specs.Source.{Source, over}
use Rattle.plan.specs.Laws.{missing_made, samples_made, round_made}
use Rattle.plan.specs.Rounds.{round_of, round_plan}
use Rattle.plan.proofs.rounds.plan_round.Goals as goal
use Rattle.plan.proofs.rounds.plan_round.Goals.{After-plan_decode-tried, then-looped, else-looped}

-- what the calls up to the decode's plan give, for any four wave buffers that have wb where it plays
module _ (c : After-plan_decode-tried) where
  abbrev s : Source
  s = over c.args.s c.args.ranges.now

  abbrev w : WaveBuffer
  w = c.args.wb

  abbrev total : ℕ
  total = c.saturating_sub-total.result

  -- the span: the loop's or the whole buffer's
  abbrev span_if : Bool → ℕ × ℕ
  span_if looped = (cond looped w.loop_start w.start, cond looped w.loop_end w.end)

  span : c.if-looped.start ≡ span_if c.in_loop-looped.result
  span =
      elim c.if-looped.branch [
        | then-looped v ↦ v.start-is ∙ ap span_if (sym v.if-looped.true)
        | else-looped v ↦ v.start-is ∙ ap span_if (sym v.if-looped.false)
      ]

  abbrev act : Act
  act = record { context = c.context_read-context.result; decode = c.plan_decode-tried.result.decode }

  module _ (b : List WaveBuffer) (e : get_or b c.args.p.index no_buffer ≡ w) where
    abbrev q : Queue
    q = queue_at b c.args.p

    made : round_of q s w total act c.plan_decode-tried.result.got ≡ round_plan q s c.args.left
    made =
        round_made q s c.args.left e c.context_read-context.ensures c.in_loop-looped.ensures
        (ap (λ (x : ℕ × ℕ). x.0) span) (ap (λ (x : ℕ × ℕ). x.1) span) c.saturating_sub-total.ensures
        c.saturating_sub.ensures c.min-want.ensures refl c.plan_decode-tried.ensures

pub returns-in-None : goal.returns-in-None
returns-in-None c b e =
    missing_made (q (goal.at.returns-in-None c).After-plan_decode-tried b e) (s (goal.at.returns-in-None c).After-plan_decode-tried) (w (goal.at.returns-in-None c).After-plan_decode-tried) (total (goal.at.returns-in-None c).After-plan_decode-tried) (act (goal.at.returns-in-None c).After-plan_decode-tried) c.in-None.is (c.after_missing.ensures b e)
    ∙ made (goal.at.returns-in-None c).After-plan_decode-tried b e

pub returns-in-Some : goal.returns-in-Some
returns-in-Some c b e =
    samples_made (q (goal.at.returns-in-Some c).After-plan_decode-tried b e) (s (goal.at.returns-in-Some c).After-plan_decode-tried) (w (goal.at.returns-in-Some c).After-plan_decode-tried) (total (goal.at.returns-in-Some c).After-plan_decode-tried) (act (goal.at.returns-in-Some c).After-plan_decode-tried) c.in-Some.is
    (c.after_got-moved.ensures b e) ∙ made (goal.at.returns-in-Some c).After-plan_decode-tried b e
