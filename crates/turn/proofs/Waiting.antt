-- A voice that waits: what a turn does before it fetches leaves it as it was. Assumes nothing.
use Rattle.std.proofs.Common.{◌≡◌, false, cond, ◌⊎◌, sym, refl, ◌∙◌, inl, inr}
use Rattle.voice.specs.declared.play.Play.{Play}
use Rattle.voice.specs.declared.play.Play.TheVariants.{Stopped, Paused}
use Rattle.voice.specs.declared.queue.Queue.{Queue}
use Rattle.voice.specs.declared.Voice.{Voice}
use Rattle.voice.specs.declared.ready.Prepared.{Prepared}
use Rattle.voice.specs.Prepare.{flushed, prepared_by, prepare_of}
use Rattle.voice.specs.Voice.{queue_of, with as prepared}
use Rattle.turn.specs.Turn.{unfresh, freshened, begin_of}

-- it is stopped or paused, not fresh, and has nothing to flush
pub record Waiting (v : Voice) : Type 0 where
  pub fresh : v.fresh ≡ false
  pub play : (v.play ≡ Stopped) ⊎ (v.play ≡ Paused)
  pub flush : v.flush ≡ 0

-- as it was, and not ready
abbrev pub unprepared : Voice → Prepared
unprepared v = record { voice = v; ready = false; reset = false }

module _ (v : Voice) (e : v.flush ≡ 0) where
  by_mark : (p : Play) → ((q : Queue) → prepared_by p q v ≡ unprepared (prepared p 0 q v.fraction v)) → v.play ≡ p
      → prepare_of v ≡ unprepared v
  unfolding prepare_of flushed
  by_mark p same h =
      (λ i. prepared_by (h i) (flushed (e i) v.base_index (queue_of v)) v)
      ∙ same (queue_of v)
      ∙ (λ i. unprepared (prepared (sym h i) (sym e i) (queue_of v) v.fraction v))

  prepare_waiting : (v.play ≡ Stopped) ⊎ (v.play ≡ Paused) → prepare_of v ≡ unprepared v
  unfolding prepared_by
  prepare_waiting (inl h) = by_mark Stopped (λ q. refl) h
  prepare_waiting (inr h) = by_mark Paused (λ q. refl) h

pub begin_waiting : (v : Voice) → Waiting v → begin_of v ≡ unprepared v
unfolding begin_of freshened
begin_waiting v h = (λ i. prepare_of (cond (h.fresh i) (unfresh v) v)) ∙ prepare_waiting v h.flush h.play
