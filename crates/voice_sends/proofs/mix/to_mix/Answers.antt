-- `mix::to_mix` meets its contract: a mix is there, or not. Assumes nothing.
use native.Mathlib.Omega.{arith}
use Rattle.voice_sends.specs.Cases.{no_mix_lem, some_mix}
use Rattle.voice_sends.proofs.mix.to_mix.Goals as goal

pub returns-then-m-mixes : goal.returns-then-m-mixes
returns-then-m-mixes c = no_mix_lem _ _ _ _ _ _ _ _ (omega arith)

pub returns : goal.returns
returns c = some_mix _ _ _ _ _ _ _ _ (omega arith) c.mix_sends.ensures
