-- `encoder::frame::next_byte` meets its contract. Assumes nothing.
use mathlib.Core.Path.{◌≡◌, refl, ◌∙◌}
use mathlib.Core.List.{List}
use Prim.Native.Nat.{ℕ, suc, ◌+◌}
use native.Mathlib.Nat.{add-zero}
use native.Mathlib.Omega.{arith}
use lib.IntN.{ℤ, pos}
use lib.ListN.{length, get_or}
use mir.Syntax.{w16}
use mir.Facts.{to_z-of_z}
use Rattle.adpcm.proofs.Ints.{back}
use Rattle.nearest.proofs.Nearest.{chosen_by, chosen_below, chosen_fits}
use Rattle.nearest.specs.Nearest.{Chosen}
use Rattle.nearest.specs.declared.Choice.{Choice}
use Rattle.encoder.proofs.Putting.{packs_by, packs_last, packs_two}
use Rattle.encoder.proofs.frame.next_byte.Goals as goal
use Rattle.encoder.proofs.frame.next_byte.Goals.{After-choose_nibble-one, After-choose_nibble-two, Start}

-- the arguments
module _ (start : Start) where
  abbrev ts : List ℤ
  ts = start.args.samples.now

  abbrev i : ℕ
  i = start.args.i

  abbrev s : ℕ
  s = start.args.s

  abbrev c : ℤ
  c = start.args.c

  abbrev d : ℤ
  d = start.args.d

  abbrev h0 : ℤ
  h0 = start.args.h0

  abbrev h1 : ℤ
  h1 = start.args.h1

-- the choice for sample i
module _ (p : After-choose_nibble-one) where
  abbrev chosen : Choice
  chosen = p.choose_nibble-one.result

  one : Chosen (get_or (ts p.before.before) (i p.before.before) (pos 0)) (s p.before.before) (c p.before.before) (d p.before.before) (h0 p.before.before) (h1 p.before.before) chosen.nibble chosen.sample chosen.difference
  one =
      let sample = back w16 (get_or (ts p.before.before) (i p.before.before) (pos 0)) (omega arith) in
      let f = p.ranges in
      chosen_by (s p.before.before) sample (to_z-of_z f.c) (to_z-of_z f.d) (to_z-of_z f.h0) (to_z-of_z f.h1) p.choose_nibble-one.ensures

-- the choice for sample i + 1, after the first one's
module _ (q : After-choose_nibble-two) where
  abbrev g : Start
  g = q.before.before.before.before.before.before.before

  abbrev next : Choice
  next = q.choose_nibble-two.result

  two : Chosen (get_or (ts g) (i g + 1) (pos 0)) (s g) (c g) (d g) (chosen q.before.before.before.before.before).sample (h0 g) next.nibble next.sample next.difference
  two =
      let sample = back w16 (get_or (ts g) (i g + 1) (pos 0)) (omega arith) in
      let f = q.ranges in
      let last = to_z-of_z (chosen_fits (one q.before.before.before.before.before)) in
      chosen_by (s g) sample (to_z-of_z f.c) (to_z-of_z f.d) last (to_z-of_z f.h0) q.choose_nibble-two.ensures

pub pack-requires : goal.pack-requires
pack-requires c = (chosen_below (one (goal.at.pack-requires c).After-choose_nibble-one), omega arith)

pub returns-then-samples-i : goal.returns-then-samples-i
returns-then-samples-i r =
    let e : length (ts (goal.at.returns-then-samples-i r).Start) ≡ suc (i (goal.at.returns-then-samples-i r).Start) = omega arith in
    packs_by (s (goal.at.returns-then-samples-i r).Start) (c (goal.at.returns-then-samples-i r).Start) (d (goal.at.returns-then-samples-i r).Start) (r.pack.ensures ∙ add-zero _) (to_z-of_z (chosen_fits (one (goal.at.returns-then-samples-i r).After-choose_nibble-one))) (to_z-of_z r.ranges.h0)
    (packs_last (s (goal.at.returns-then-samples-i r).Start) (c (goal.at.returns-then-samples-i r).Start) (d (goal.at.returns-then-samples-i r).Start) (ts (goal.at.returns-then-samples-i r).Start) (i (goal.at.returns-then-samples-i r).Start) (h0 (goal.at.returns-then-samples-i r).Start) (h1 (goal.at.returns-then-samples-i r).Start) r.ranges.h0 _ refl _ _ _ (one (goal.at.returns-then-samples-i r).After-choose_nibble-one) e)

pub pack-requires-2 : goal.pack-requires-2
pack-requires-2 c = (chosen_below (one (goal.at.pack-requires-2 c).After-choose_nibble-one), chosen_below (two (goal.at.pack-requires-2 c).After-choose_nibble-two))

pub returns : goal.returns
returns r =
    let f = g (goal.at.returns r).After-choose_nibble-two in
    packs_by (s f) (c f) (d f) r.pack-2.ensures (to_z-of_z (chosen_fits (two (goal.at.returns r).After-choose_nibble-two))) (to_z-of_z (chosen_fits (one (goal.at.returns r).After-choose_nibble-one)))
    (packs_two (s f) (c f) (d f) (ts f) (i f) (h0 f) (h1 f) r.ranges.h0 _ refl _ _ _ (one (goal.at.returns r).After-choose_nibble-one) _ refl _ _ _ (two (goal.at.returns r).After-choose_nibble-two) (omega arith))
