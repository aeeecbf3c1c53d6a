-- `plan::plan_adpcm` meets its contract: the calls give the parts of `adpcmPlan`, by whether there are bytes, whether they can be read and whether they hold samples. Assumes nothing.
use Rattle.std.proofs.Common.{◌≡◌, ℕ, ◌+◌, ◌-◌, ◌/◌, ◌%◌, ◌^◌, min, Bool, true, false, not, cond, ◌==◌, Some, None, ap, sym, refl, ◌∙◌, arith, eq-eqb, ne_eqb}
use Rattle.adpcm.specs.Places.{nibble_of, size_of, nibble_le}
use Rattle.std.specs.Prelude.{Option}
use Rattle.std.specs.Bool.{then_some}
use Rattle.plan.specs.declared.Decode.TheVariants.{Adpcm}
use Rattle.plan.specs.declared.attempt.Attempt.{Attempt}
use Rattle.plan.specs.Laws.{adpcm_made}
use Rattle.plan.specs.Source.{over}
use Rattle.plan.proofs.attempt.plan_adpcm.Goals as goal
use Rattle.plan.proofs.attempt.plan_adpcm.Goals.{After-min-bytes}

-- a count of bytes is the least of two places, less the first
least_past : (a b f : ℕ) → min (a - f) (b - f) ≡ min a b - f
least_past a b f = omega arith

-- the bytes from first on
module _ (c : After-min-bytes) where
  first : c.adpcm_nibble_byte-first.result.0 ≡ nibble_of c.args.start.0 / 2
  first = c.adpcm_nibble_byte-first.ensures

  bytes : c.min-bytes.result ≡ min (size_of (c.args.start.0 + c.args.want)) c.args.wb.size - c.adpcm_nibble_byte-first.result.0
  bytes =
      let size = c.adpcm_size.ensures ∙ (λ i. size_of (c.plus.ensures i)) in
      c.min-bytes.ensures ∙ (λ i. min ((c.past-wanted.ensures ∙ (λ j. size j - c.adpcm_nibble_byte-first.result.0)) i) (c.past.ensures i)) ∙ least_past _ _ _

pub returns-then-bytes-eq0 : goal.returns-then-bytes-eq0
returns-then-bytes-eq0 c =
    c.missing.ensures ∙ adpcm_made (over c.args.s c.args.ranges.now) c.args.wb c.args.start c.args.want (first (goal.at.returns-then-bytes-eq0 c).After-min-bytes) (bytes (goal.at.returns-then-bytes-eq0 c).After-min-bytes) (eq-eqb _ 0 c.if-bytes-eq0.true) refl refl refl refl

pub adpcm_count-n-requires : goal.adpcm_count-n-requires
unfolding size_of
adpcm_count-n-requires c =
    omega (arith, bytes (goal.at.adpcm_count-n-requires c).After-min-bytes, nibble_le (c.args.start.0 + c.args.want), c.requires.0, c.requires.1)

-- where no sample is made, nothing is got
got_some : (n : ℕ) (b : Bool) → then_some (not b) n ≡ cond b None (Some n)
got_some n true = refl
got_some n false = refl

pub returns-then-readable : goal.returns-then-readable
returns-then-readable c =
    let n = c.adpcm_count-n.result in
    let d = Adpcm c.args.want ((c.args.wb.addr + c.adpcm_nibble_byte-first.result.0) % 2 ^ 64) c.min-bytes.result c.args.start in
    let made : Option ℕ → Attempt = λ g. record { got = g; decode = d } in
    ap made (c.then_some.ensures ∙ got_some n (n == 0))
    ∙ adpcm_made (over c.args.s c.args.ranges.now) c.args.wb c.args.start c.args.want (first (goal.at.returns-then-readable c).After-min-bytes) (bytes (goal.at.returns-then-readable c).After-min-bytes) (ne_eqb _ 0 c.if-bytes-eq0.false) refl (sym c.readable.ensures ∙ c.if-readable.true) c.adpcm_count-n.ensures refl

pub returns : goal.returns
returns c =
    c.missing-2.ensures
    ∙ adpcm_made (over c.args.s c.args.ranges.now) c.args.wb c.args.start c.args.want (first (goal.at.returns c).After-min-bytes) (bytes (goal.at.returns c).After-min-bytes) (ne_eqb _ 0 c.if-bytes-eq0.false) refl (sym c.readable.ensures ∙ c.if-readable.false) refl refl
