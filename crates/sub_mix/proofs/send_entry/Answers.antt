-- `sub_mix::send_entry` meets its contract: each way out is a case of `send_entry`. Assumes nothing.
use mathlib.Core.Path.{sym, ◌∙◌}
use native.Mathlib.Omega.{arith}
use Rattle.desk_order.specs.Laws.{configured_below}
use Rattle.sub_mix.specs.Laws.{entry_not_configured, entry_no_mix, entry_sent_lem}
use Rattle.sub_mix.proofs.send_entry.Goals as goal

pub returns-then-not-configured : goal.returns-then-not-configured
returns-then-not-configured c = sym (entry_not_configured _ _ _ _ _ _ _ _ _ _ _ _ (sym c.configured.ensures ∙ c.if-not-configured.true))

pub destination_mix-to-requires : goal.destination_mix-to-requires
destination_mix-to-requires c = configured_below _ _ _ _ (sym c.configured.ensures ∙ c.if-not-configured.false)

pub returns-then-to-mixer : goal.returns-then-to-mixer
returns-then-to-mixer c =
    sym
    (entry_no_mix _ _ _ _ _ _ _ _ _ _ _ _ (sym c.configured.ensures ∙ c.if-not-configured.false)
    (omega (arith, c.if-to-mixer.true, c.destination_mix-to.ensures)))

pub send_destination-requires-clause-within : goal.send_destination-requires-clause-within
send_destination-requires-clause-within c =
    (c.requires.mix, omega (arith, c.if-to-mixer.false), configured_below _ _ _ _ (sym c.configured.ensures ∙ c.if-not-configured.false))

pub returns : goal.returns
returns c =
    entry_sent_lem _ _ _ _ _ _ _ _ _ _ _ _ (sym c.configured.ensures ∙ c.if-not-configured.false) c.destination_mix-to.ensures
    (omega (arith, c.if-to-mixer.false)) c.send_destination.ensures
