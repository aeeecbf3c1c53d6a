-- `mixes::update_mixes` meets its contract: the records leave the mixes sized, and then come the offsets. Assumes nothing.
use mathlib.Core.Path.{ap, ◌∙◌}
use mathlib.Core.Bool.{Bool}
use Rattle.desk_mixes.specs.Mixes.{MixRows, mix_rows, mix_records, offsets_of, mixes_of}
use Rattle.desk_mixes.specs.MixLaws.{same_sized, records_sized}
use Rattle.desk_mixes.proofs.mixes.update_mixes.Goals as goal

pub mix_offsets-requires : goal.mix_offsets-requires
mix_offsets-requires c =
    let s = same_sized c.args.n c.mix_records.ensures (records_sized c.args.n _ _ _ c.requires) in
    (s.most, s.words_long, s.counts)

pub returns : goal.returns
unfolding mixes_of
returns c =
    let st = mix_rows c.args.words.now c.args.floats.now in
    let e = c.mix_records.ensures ∙ ap (λ (dirty : Bool). mix_records dirty c.args.d.now c.args.n st) c.dirty_only.ensures in record { words_after = c.mix_offsets.ensures ∙ ap (λ (r : MixRows). offsets_of c.args.n r.words) e; floats_after = ap (λ (r : MixRows). r.floats) e }
