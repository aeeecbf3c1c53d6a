-- `turn::begin` meets its contract: it prepares the voice that is fresh no longer, whose slots are as they were. Assumes nothing.
use Rattle.std.proofs.Common.{◌<◌, sym, refl, ap, ◌∙◌, subst}
use Rattle.voice.specs.declared.Voice.{Voice}
use Rattle.voice.specs.Prepare.{prepare_of}
use Rattle.turn.specs.Turn.{begin_of}
use Rattle.turn.specs.Begins.{freshened_same}
use Rattle.turn.proofs.begin.Goals as goal

pub prepare-requires : goal.prepare-requires
prepare-requires c =
    let v = c.args.v in
    let e = sym c.freshen.ensures in record { base_index_bound = subst (λ (w : Voice). w.base_index < 4) e (rw (freshened_same (λ w. w.base_index) v refl) c.requires.base_index_bound); index_bound = subst (λ (w : Voice). w.index < 4) e (rw (freshened_same (λ w. w.index) v refl) c.requires.index_bound) }

pub returns : goal.returns
unfolding begin_of
returns c = c.prepare.ensures ∙ ap prepare_of c.freshen.ensures
