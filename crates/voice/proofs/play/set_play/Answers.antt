-- `voice::set_play` meets its contract: each way out is a case of the request and of the play mark. Assumes nothing.
use Rattle.std.proofs.Common.{◌≡◌, ◌≢◌, refl, ◌∙◌, arith}
use Rattle.voice.specs.declared.play.Play.{Play}
use Rattle.voice.specs.declared.play.Play.TheVariants.{Started, Stopped, Stopping, Paused}
use Rattle.voice.specs.Laws.{play_started, play_stopped, play_paused}
use Rattle.voice.specs.Play.{stop_play}
use Rattle.voice.proofs.play.set_play.Goals as goal

stops : (p : Play) → (p ≡ Stopped → ⊥) → Stopping ≡ stop_play p
stops Started h = refl
stops Stopped h = absurd (h refl)
stops Stopping h = refl
stops Paused h = refl

pub returns-in-0 : goal.returns-in-0
returns-in-0 c = play_started _ _ c.in-0.is

pub returns-in-Stopped : goal.returns-in-Stopped
returns-in-Stopped c = play_stopped _ c.in-1.is c.in-Stopped.is

pub returns-in_default-play : goal.returns-in_default-play
returns-in_default-play c = stops c.args.play c.in_default-play.not-Stopped ∙ play_stopped _ c.in-1.is refl

pub returns-in_default : goal.returns-in_default
returns-in_default c =
    let ne0 : c.args.requested ≢ 0 = omega arith in
    let ne1 : c.args.requested ≢ 1 = omega arith in
    play_paused _ _ ne0 ne1
