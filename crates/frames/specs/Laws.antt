-- The search for the first sink that plays, the frames by its outcome, and their range. Assumes nothing.
use Rattle.std.specs.Prelude.{◌≡◌, true, false, List, T, length, get_or, replicate, Float, Option, None, Some}
use Rattle.std.specs.Option.{unwrap_or, option_map}
use Rattle.std.proofs.Math.Path.{sym, ap}
use Rattle.std.proofs.Common.{◌∙◌}
use Prim.Native.Nat.{ℕ, zero, suc, ◌+◌, ◌-◌, ◌*◌, ◌≤◌, ◌<◌}
use native.Mathlib.Omega.{arith}
use borrow.Author.Tests.{eq-eqb, ne_eqb}
use Rattle.std.proofs.lemmas.List.{length-replicate}
use Rattle.std.specs.Float.Ieee.{is_nan, le}
use Rattle.std.specs.Float.Ieee.Fits.{and_i}
use Rattle.floats.specs.Defs.{zero32}
use Rattle.sink.specs.Sink.{sink_of, each, in_range}
use Rattle.sink.specs.Laws.{sink_in, sink_none, length_sink}
use Rattle.frames.specs.Frames.{plays_at, first_from, sink_at, frames_of}

-- ---- whether a sink plays

module _ (words : List ℕ) (k : ℕ) where
  pub not_in_use : get_or words (k * 10) 0 ≡ 0 → false ≡ plays_at words k
  unfolding plays_at
  not_in_use e = rw (eq-eqb _ 0 e)

  pub by_device : (get_or words (k * 10) 0 ≡ 0 → ⊥) → get_or words (k * 10 + 1) 0 ≡ 0 → false ≡ plays_at words k
  unfolding plays_at
  by_device n e = rw (ne_eqb _ 0 n, eq-eqb _ 0 e)

  pub in_use_device : (get_or words (k * 10) 0 ≡ 0 → ⊥) → (get_or words (k * 10 + 1) 0 ≡ 0 → ⊥) → true ≡ plays_at words k
  unfolding plays_at
  in_use_device n m = rw (ne_eqb _ 0 n, ne_eqb _ 0 m)

-- ---- the search: what is left of it from k on is the whole

module _ (words : List ℕ) (sinks k : ℕ) (e : first_from words (sinks - k) k ≡ first_from words sinks 0) where
  pub found : k < sinks → plays_at words k ≡ true → Some k ≡ first_from words sinks 0
  unfolding first_from
  found h p =
      let left : sinks - k ≡ suc (sinks - (k + 1)) = omega arith in
      let first : first_from words (suc (sinks - (k + 1))) k ≡ Some k = rw p in
      sym first ∙ ap (λ (n : ℕ). first_from words n k) (sym left) ∙ e

  pub passed : k < sinks → plays_at words k ≡ false → first_from words (sinks - (k + 1)) (k + 1) ≡ first_from words sinks 0
  unfolding first_from
  passed h p =
      let left : sinks - k ≡ suc (sinks - (k + 1)) = omega arith in
      let first : first_from words (suc (sinks - (k + 1))) k ≡ first_from words (sinks - (k + 1)) (k + 1) = rw p in
      sym first ∙ ap (λ (n : ℕ). first_from words n k) (sym left) ∙ e

  pub none_left : sinks ≤ k → None ≡ first_from words sinks 0
  unfolding first_from
  none_left q =
      let left : sinks - k ≡ zero = omega arith in
      ap (λ (n : ℕ). first_from words n k) (sym left) ∙ e

-- ---- the frames, by the search's outcome

module _ (buffers : List Float) (n offset : ℕ) (words : List ℕ) (floats : List Float) (sinks : ℕ) where
  abbrev framed : Option ℕ → List Float
  framed o = unwrap_or (option_map (sink_at buffers n offset words floats) o) (replicate (2 * n) zero32)

  pub frames_some : {k : ℕ} → Some k ≡ first_from words sinks 0 → sink_at buffers n offset words floats k ≡ frames_of buffers n offset words floats sinks
  unfolding frames_of
  frames_some e = ap framed e

  pub frames_none : None ≡ first_from words sinks 0 → (inputs : List ℕ) (downmix : Option (List Float))
      → sink_of buffers n offset inputs 0 downmix ≡ frames_of buffers n offset words floats sinks
  unfolding frames_of
  frames_none e inputs downmix = sink_none buffers n offset inputs downmix ∙ ap framed e

-- ---- there are 2 n samples, each in [-1, 1] or a NaN

pub length_frames_of : (buffers : List Float) (n offset : ℕ) (words : List ℕ) (floats : List Float) (sinks : ℕ)
    → length (frames_of buffers n offset words floats sinks) ≡ 2 * n
unfolding frames_of sink_at
length_frames_of buffers n offset words floats sinks = go (first_from words sinks 0)
  where
    go : (o : Option ℕ) → length (framed buffers n offset words floats sinks o) ≡ 2 * n
    go (Some k) = length_sink buffers n offset _ _ _
    go None = length-replicate (2 * n) zero32

zeros_in : (n : ℕ) → T (each (replicate n zero32))
unfolding is_nan le
zeros_in zero = tt
zeros_in (suc n) = and_i (in_range zero32) (each (replicate n zero32)) tt (zeros_in n)

pub frames_in_range : (buffers : List Float) (n offset : ℕ) (words : List ℕ) (floats : List Float) (sinks : ℕ)
    → T (each (frames_of buffers n offset words floats sinks))
unfolding frames_of sink_at
frames_in_range buffers n offset words floats sinks = go (first_from words sinks 0)
  where
    go : (o : Option ℕ) → T (each (framed buffers n offset words floats sinks o))
    go (Some k) = sink_in buffers n offset _ _ _
    go None = zeros_in (2 * n)
