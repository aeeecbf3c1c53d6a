-- `voice::has_destination` meets its contract: each way out is a case of the two tests. Assumes nothing.
use Rattle.std.proofs.Common.{ne_eqb}
use Rattle.voice.specs.Laws.{to_splitter}
use Rattle.voice.specs.Voice.{has_destination}
use Rattle.voice.proofs.has_destination.Goals as goal

pub returns-then-mix_id-ne-UNUSED_MIX : goal.returns-then-mix_id-ne-UNUSED_MIX
unfolding has_destination
returns-then-mix_id-ne-UNUSED_MIX c = rw (ne_eqb c.args.mix_id 0x7fffffff c.if-mix_id-ne-UNUSED_MIX.true)

pub returns-else-mix_id-ne-UNUSED_MIX : goal.returns-else-mix_id-ne-UNUSED_MIX
returns-else-mix_id-ne-UNUSED_MIX c = to_splitter _ _ c.if-mix_id-ne-UNUSED_MIX.false
