-- `adpcm::take_one` meets its contract: each return is a case of the definition, with its places as the definition has them. Assumes nothing.
use mathlib.Core.Path.{◌≡◌, ◌∙◌, sym}
use mathlib.Core.Bool.{Bool, true}
use mathlib.Core.List.{List}
use Prim.Native.Nat.{ℕ, ◌+◌, ◌-◌, ◌/◌, ◌%◌, ◌≤◌, ◌<◌}
use borrow.Author.Tests.{le-leb, lt-leb}
use native.Mathlib.Omega.{arith}
use lib.Dec.{eqb}
use lib.IntN.{ℤ}
use lib.ListN.{length, get_or}
use mir.Syntax.{w16}
use Rattle.adpcm.specs.Places.{nibble_of}
use Rattle.adpcm.specs.Decode.{took_of, value_of}
use Rattle.adpcm.specs.declared.context.AdpcmContext.{AdpcmContext}
use Rattle.adpcm.proofs.Ints.{back}
use Rattle.adpcm.proofs.decode.take_one.Goals as goal
use Rattle.adpcm.proofs.decode.take_one.Goals.{After-starts_frame}

module _ (c : After-starts_frame) where
  abbrev s : List ℕ
  s = c.args.«data».now

  abbrev k : List ℤ
  k = c.args.coefficients.now

  abbrev m : ℕ
  m = c.args.m.0

  abbrev x : AdpcmContext
  x = c.args.ctx

  abbrev at : ℕ
  at = nibble_of m / 2 - c.args.base.0

  place : c.index_from-at.result ≡ at
  place = c.index_from-at.ensures ∙ (λ i. c.adpcm_nibble_byte.ensures i - c.args.base.0)

  first : {b : Bool} → c.starts_frame.result ≡ b → eqb (m % 14) 0 ≡ b
  first h = sym c.starts_frame.ensures ∙ h

pub returns-then-data-at : goal.returns-then-data-at
unfolding took_of
returns-then-data-at c =
    let p = (goal.at.returns-then-data-at c).After-starts_frame in
    let h : length (s p) ≤ at p = rw (place p) at c.if-data-at.true in
    simp (first p c.if-starts_frame.true, le-leb _ _ h)

pub returns-else-data-at : goal.returns-else-data-at
unfolding took_of
returns-else-data-at c =
    let p = (goal.at.returns-else-data-at c).After-starts_frame in
    let h : at p < length (s p) = rw (place p) at c.if-data-at.false in
    c.take_value.ensures
    ∙ (λ i. value_of (s p) (place p i + 1) true (k p) (record { pred_scale = (c.from.ensures ∙ (λ j. get_or (s p) (place p j) 0)) i; history0 = back w16 (x p).history0 (omega arith) i; history1 = back w16 (x p).history1 (omega arith) i }))
    ∙ simp (first p c.if-starts_frame.true, lt-leb _ _ h)

pub returns-else-starts_frame : goal.returns-else-starts_frame
unfolding took_of
returns-else-starts_frame c =
    let p = (goal.at.returns-else-starts_frame c).After-starts_frame in
    let high : c.is_high-high.result ≡ eqb (nibble_of (m p) % 2) 0 = c.is_high-high.ensures ∙ (λ i. eqb (c.adpcm_nibble.ensures i % 2) 0) in
    simp (first p c.if-starts_frame.false) (rw (place p, high) at c.take_value-else-starts_frame.ensures)
