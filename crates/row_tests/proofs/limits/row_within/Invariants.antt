use Rattle.row_tests.specs.Limits.{Testing}
use Rattle.row_tests.specs.Pairs.{fields_of, limits_of}
use Rattle.row_tests.proofs.limits.row_within.Given as goal

abbrev pub invariant-loop-field : goal.invariant-loop-field
invariant-loop-field l = Testing l.s l.at (fields_of l.limits) (limits_of l.limits) l.field-index
