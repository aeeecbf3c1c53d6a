-- Zeros are room for a render where there are enough, the last room always is, and in each the render is the same. Assumes nothing.
use Rattle.std.proofs.Common.{◌≡◌, ℕ, zero, suc, ◌*◌, ◌<◌, ◌≤◌, List, length, take, replicate, refl, ap, subst, mul-le-mul, arith, lit≤}
use lib.Ieee.{Float}
use lib.ListN.{length-replicate}
use Rattle.floats.specs.Defs.{zero32}
use Rattle.params.specs.declared.params.Params.{Params}
use Rattle.state.specs.State.{State}
use Rattle.ranges.specs.Ranges.{Range}
use Rattle.turn.specs.Render.{Render}
use Rattle.render_turns.specs.Turns.{Playing}
use Rattle.render.specs.Render.{render_of, rendered_on, rendered_by}
use Rattle.render.specs.Laws.{take_replicate}
use Rattle.render.specs.Rooms.{floats_for, Blank, Rows, room_floats, room_samples, Fits, Holds}

-- ---- zeros, where there are enough

module _ {p : Params} {b src out : ℕ} (h : Holds p b src out) where
  pub blank_of : Blank p (replicate b zero32)
  blank_of = record {
    room = omega (arith, length-replicate b zero32, h.floats);
    zeros = take_replicate (floats_for p) b zero32 h.floats;
  }

  pub rows_of : Rows p (replicate src zero32) (replicate out zero32)
  rows_of = record {
    row = omega (arith, length-replicate src zero32, h.row);
    heard = record { rows = omega (arith, length-replicate out zero32, h.heard) };
  }

-- the rooms: the row to play from has more samples than the desk's
pub holds_first : {p : Params} → Fits 0 p → Holds p 256 64 96
unfolding room_floats room_samples
holds_first h = record {
  floats = h.floats;
  row = omega (arith, h.samples);
  heard = omega (arith, h.samples);
  few = (lit≤ tt, lit≤ tt, lit≤ tt);
}

pub holds_second : {p : Params} → Fits 1 p → Holds p 2560 516 1536
unfolding room_floats room_samples
holds_second h = record {
  floats = h.floats;
  row = omega (arith, h.samples);
  heard = omega (arith, h.samples);
  few = (lit≤ tt, lit≤ tt, lit≤ tt);
}

pub holds_third : {p : Params} → Fits 2 p → Holds p 6144 516 1536
unfolding room_floats room_samples
holds_third h = record {
  floats = h.floats;
  row = omega (arith, h.samples);
  heard = omega (arith, h.samples);
  few = (lit≤ tt, lit≤ tt, lit≤ tt);
}

pub holds_last : {p : Params} → Fits 3 p → Holds p 24576 516 1536
unfolding room_floats room_samples
holds_last h = record {
  floats = h.floats;
  row = omega (arith, h.samples);
  heard = omega (arith, h.samples);
  few = (lit≤ tt, lit≤ tt, lit≤ tt);
}

-- a slice that came back as long as it was lent has room for as much
pub room_kept : {n a b : ℕ} → a ≡ b → n ≤ b → n ≤ a
room_kept e h = omega arith

-- and one of just that length has room for it
pub length_kept : {n a b : ℕ} → a ≡ b → b ≡ n → n ≤ a
length_kept e h = omega arith

-- ---- which room

-- no desk is larger than the last
pub floats_upto : {p : Params} {r : Render} {m : List ℕ} {k : ℕ} {st : State} → Playing p r m k st → floats_for p ≤ 24576
floats_upto a = mul-le-mul a.desk.allowed.mix_buffers_lem a.desk.allowed.samples

pub fits_last : {p : Params} {r : Render} {m : List ℕ} {k : ℕ} {st : State} → Playing p r m k st → Fits 3 p
unfolding room_floats room_samples
fits_last a = record { floats = floats_upto a; samples = a.desk.allowed.samples }

pub fits_at : {p : Params} {k j : ℕ} → k ≡ j → (floats_for p ≤ room_floats k) × (p.sample_count ≤ room_samples k) → Fits j p
fits_at {p} e h = record {
  floats = subst (λ (x : ℕ). floats_for p ≤ room_floats x) e h.0;
  samples = subst (λ (x : ℕ). p.sample_count ≤ room_samples x) e h.1;
}

pub last_floats : (k : ℕ) → (k ≡ 0 → ⊥) → (k ≡ 1 → ⊥) → (k ≡ 2 → ⊥) → 24576 ≡ room_floats k
unfolding room_floats
last_floats zero a b c = absurd (a refl)
last_floats (suc zero) a b c = absurd (b refl)
last_floats (suc (suc zero)) a b c = absurd (c refl)
last_floats (suc (suc (suc k))) a b c = refl

pub later_samples : (k : ℕ) → (k ≡ 0 → ⊥) → 256 ≡ room_samples k
unfolding room_samples
later_samples zero a = absurd (a refl)
later_samples (suc k) a = refl

-- room 3 is the last that is asked for
pub floats_few : (k floats : ℕ) → floats ≤ 24576 → room_floats k < floats → k < 3
unfolding room_floats
floats_few zero floats h l = omega arith
floats_few (suc zero) floats h l = omega arith
floats_few (suc (suc zero)) floats h l = omega arith
floats_few (suc (suc (suc k))) floats h l = absurd (omega arith)

pub samples_few : (k samples : ℕ) → samples ≤ 256 → room_samples k < samples → k < 3
unfolding room_samples
samples_few zero samples h l = omega arith
samples_few (suc k) samples h l = absurd (omega arith)

-- ---- a render

pub blank_rendered : (p : Params) (rs : List Range) (m : List ℕ) (st : State) (buffers frames : List Float) → Blank p buffers
    → rendered_on p (render_of p rs) m st (take (floats_for p) buffers) frames ≡ rendered_by p rs m st frames
unfolding rendered_by
blank_rendered p rs m st buffers frames b = ap (λ (x : List Float). rendered_on p (render_of p rs) m st x frames) b.zeros
