-- `voice_records::channel_ids` meets its contract: one call for each channel. Assumes nothing.
use Rattle.std.proofs.Common.{ℕ, rules, tests}
use Rattle.voice_records.specs.Record.{id_at, ids_of}
use Rattle.voice_records.proofs.FromFn.{from_fn_gives}
use Rattle.voice_records.proofs.numbers.channel_ids.Goals as goal

pub returns : goal.returns
unfolding ids_of
returns c =
    let a = c.args in
    from_fn_gives _ _ (λ (i : ℕ). id_at a.count a.p.now i) (λ i y q k. search (rules, tests)) c.from_fn.result 6 c.from_fn.ensures.items
