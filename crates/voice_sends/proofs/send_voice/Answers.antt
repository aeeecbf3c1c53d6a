-- `voice_sends::send_voice` meets its contract: it goes by its mix, or by its splitter. Assumes nothing.
use Rattle.voice_sends.specs.Sending.{sent_of}
use Rattle.voice_sends.specs.Cases.{sends_by_splitter, sends_to_mix}
use Rattle.voice_sends.proofs.send_voice.Goals as goal

pub returns-then-mix_id-eq2147483647 : goal.returns-then-mix_id-eq2147483647
returns-then-mix_id-eq2147483647 c =
    sends_by_splitter _ _ _ _ _ _ _ _ _ _ _ (sent_of _ _ _) c.if-mix_id-eq2147483647.true c.by_splitter.ensures

pub returns-else-mix_id-eq2147483647 : goal.returns-else-mix_id-eq2147483647
returns-else-mix_id-eq2147483647 c =
    sends_to_mix _ _ _ _ _ _ _ _ _ _ _ (sent_of _ _ _) c.if-mix_id-eq2147483647.false c.to_mix.ensures
