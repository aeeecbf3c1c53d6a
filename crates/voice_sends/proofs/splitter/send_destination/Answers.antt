-- `splitter::send_destination` meets its contract: each way out is a case of its tests. Assumes nothing.
use mathlib.Core.Path.{◌≡◌, sym, ◌∙◌}
use mathlib.Core.Bool.{true}
use native.Mathlib.Omega.{arith}
use Rattle.desk_rows.specs.DeskRows.{configured_of}
use Rattle.voice_sends.specs.Laws.{configured_inside}
use Rattle.voice_sends.specs.Cases.{not_configured, not_its_mix, to_its_mix}
use Rattle.voice_sends.proofs.splitter.send_destination.Goals as goal
use Rattle.voice_sends.proofs.splitter.send_destination.Goals.{Else-not-configured}

-- past the first test
is_configured : (c : Else-not-configured)
    → configured_of c.args.desk.now.lists.ns c.args.desk.now.lists.nd c.args.desk.now.lists.words.now c.args.d ≡ true
is_configured c = sym c.configured.ensures ∙ c.if-not-configured.false

pub returns-then-not-configured : goal.returns-then-not-configured
returns-then-not-configured c = not_configured _ _ _ _ _ _ _ _ _ _ _ (sym c.configured.ensures ∙ c.if-not-configured.true)

pub destination_mix-m-requires : goal.destination_mix-m-requires
destination_mix-m-requires c = configured_inside _ _ _ _ (is_configured c)

pub returns-then-m-desk : goal.returns-then-m-desk
returns-then-m-desk c = not_its_mix _ _ _ _ _ _ _ _ _ _ _ (is_configured (goal.at.returns-then-m-desk c).Else-not-configured) c.destination_mix-m.ensures (omega arith)

pub send_channel-requires : goal.send_channel-requires
send_channel-requires c = omega (arith, c.requires, configured_inside _ _ _ _ (is_configured (goal.at.send_channel-requires c).Else-not-configured))

pub returns : goal.returns
returns c =
    to_its_mix _ _ _ _ _ _ _ _ _ _ _ (is_configured (goal.at.returns c).Else-not-configured) c.destination_mix-m.ensures (omega arith) c.send_channel.ensures
