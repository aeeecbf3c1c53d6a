-- `adpcm::decode_adpcm_checked` meets its contract: each return is a case of the definition. Assumes nothing.
use Prim.Native.Nat.{◌^◌}
use native.Mathlib.Omega.{arith}
use borrow.Author.Tests.{le-leb, lt-leb}
use lib.ListN.{length}
use Rattle.adpcm.specs.Answer.{outcome_of}
use Rattle.adpcm.proofs.decode.decode_adpcm_checked.Goals as goal

pub returns-then-start-gt1152921504606846976 : goal.returns-then-start-gt1152921504606846976
unfolding outcome_of
returns-then-start-gt1152921504606846976 c =
    simp (lt-leb c.args.start.0 (2 ^ 60) (omega arith))

pub returns-then-out-count : goal.returns-then-out-count
unfolding outcome_of
returns-then-out-count c =
    simp (le-leb c.args.start.0 (2 ^ 60) (omega arith), lt-leb c.args.count (length c.args.out.now) (omega arith))

pub returns : goal.returns
unfolding outcome_of
returns c =
    simp (le-leb c.args.start.0 (2 ^ 60) (omega arith), le-leb c.args.count (length c.args.out.now) (omega arith))
    (λ i. record { number = 0; done = c.decode_adpcm.ensures.count i; context = c.decode_adpcm.ensures.context i; output = c.decode_adpcm.ensures.output i })
