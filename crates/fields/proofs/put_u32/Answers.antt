-- `fields::put_u32` meets its contract: the bytes are the number's own. Assumes nothing.
use Rattle.fields.proofs.Bytes.{own_bytes}
use Rattle.fields.proofs.put_u32.Goals as goal

pub returns : goal.returns
returns c = cc (own_bytes 4 c.args.v)
