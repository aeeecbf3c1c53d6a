-- `fields::put_byte` meets its contract: a byte is its own rest by 256. Assumes nothing.
use Rattle.std.proofs.Common.{◌≡◌, ◌%◌, arith}
use Rattle.fields.specs.Fields.{bytes_of}
use Rattle.fields.proofs.put_byte.Goals as goal

pub returns : goal.returns
unfolding bytes_of
returns c =
    let e : c.args.v % 256 ≡ c.args.v = omega arith in
    rw e c.copy_in.ensures
