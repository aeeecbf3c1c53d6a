-- What a turn does to a voice before it fetches leaves most of it as it was. Assumes nothing.
use Rattle.std.specs.Prelude.{◌≡◌, ℕ, ◌<◌, Bool, true, false, cond, T, refl, Float}
use Rattle.std.proofs.Common.{mod-lt, ◌∙◌, lit<}
use Rattle.std.specs.Float.Ieee.{le, lt, eq}
use Rattle.floats.specs.Unit.{in_unit}
use Rattle.voice.specs.declared.play.Play.{Play}
use Rattle.voice.specs.declared.play.Play.TheVariants.{Started, Stopped, Stopping, Paused}
use Rattle.voice.specs.declared.queue.Queue.{Queue}
use Rattle.voice.specs.declared.Voice.{Voice}
use Rattle.voice.specs.Prepare.{flushed, promoted, stopped, prepared_by, prepare_of}
use Rattle.voice.specs.Slots.{flushed_index}
use Rattle.voice.specs.Voice.{queue_of, with as prepared}
use Rattle.turn.specs.Turn.{unfresh, freshened, begin_of}

-- ---- a voice that is fresh no longer

pub freshened_same {ℓ} : {A : Type ℓ} (f : Voice → A) (v : Voice) → f (unfresh v) ≡ f v → f (freshened v) ≡ f v
unfolding freshened
freshened_same f v e = by_fresh v.fresh
  where
    by_fresh : (b : Bool) → f (cond b (unfresh v) v) ≡ f v
    by_fresh true = e
    by_fresh false = refl

-- ---- a voice that is prepared

module _ {ℓ} {A : Type ℓ} (f : Voice → A) (same : (p : Play) (n : ℕ) (q : Queue) (x : Float) (v : Voice) → f (prepared p n q x v) ≡ f v) where
  by_play : (p : Play) (q : Queue) (v : Voice) → f (prepared_by p q v).voice ≡ f v
  unfolding prepared_by
  by_play Started q v = same _ _ _ _ v
  by_play Stopping q v = same _ _ _ _ v
  by_play Stopped q v = same _ _ _ _ v
  by_play Paused q v = same _ _ _ _ v

  -- what neither step touches
  pub begin_same : (v : Voice) → f (unfresh v) ≡ f v → f (begin_of v).voice ≡ f v
  unfolding begin_of prepare_of
  begin_same v e = by_play (freshened v).play (flushed (freshened v).flush (freshened v).base_index (queue_of (freshened v))) (freshened v) ∙ freshened_same f v e

pub begin_channels : (v : Voice) → (begin_of v).voice.channels ≡ v.channels
begin_channels v = begin_same (λ w. w.channels) (λ p n q x w. refl) v refl

pub begin_base : (v : Voice) → (begin_of v).voice.base_index ≡ v.base_index
begin_base v = begin_same (λ w. w.base_index) (λ p n q x w. refl) v refl

-- a slot still plays
index_by : (p : Play) (q : Queue) (v : Voice) → q.index < 4 → (prepared_by p q v).voice.index < 4
unfolding prepared_by promoted stopped
index_by Started q v h = h
index_by Stopping q v h = mod-lt _ (lit< tt)
index_by Stopped q v h = h
index_by Paused q v h = h

pub begin_index : (v : Voice) → v.index < 4 → (begin_of v).voice.index < 4
unfolding begin_of prepare_of
begin_index v h =
    index_by (freshened v).play _ (freshened v)
    (flushed_index (freshened v).flush (freshened v).base_index (queue_of (freshened v)) (rw (freshened_same (λ w. w.index) v refl) h))

-- the fraction stays, or is 0
fraction_by : (p : Play) (q : Queue) (v : Voice) → T (in_unit v.fraction) → T (in_unit (prepared_by p q v).voice.fraction)
unfolding prepared_by le lt eq
fraction_by Started q v h = h
fraction_by Stopping q v h = tt
fraction_by Stopped q v h = h
fraction_by Paused q v h = h

pub begin_fraction : (v : Voice) → T (in_unit v.fraction) → T (in_unit (begin_of v).voice.fraction)
unfolding begin_of prepare_of
begin_fraction v h =
    fraction_by (freshened v).play _ (freshened v) (rw (freshened_same (λ w. w.fraction) v refl) h)
