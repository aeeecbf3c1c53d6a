-- `render_turns::render_voices` meets its contract: `Going` holds after each voice. Assumes nothing.
use mathlib.Core.Path.{◌≡◌, refl, sym, ◌∙◌}
use Prim.Native.Nat.{◌-◌}
use native.Mathlib.Omega.{arith}
use borrow.Author.Rules.{rules}
use lib.ListN.{length}
use Rattle.state.specs.State.{state_of}
use Rattle.turn.specs.Render.{render_over}
use Rattle.voice_turn.specs.Played.{studio}
use Rattle.render_turns.proofs.Loop.{Going, going_begin, spent_few, going_more, going_end}
use Rattle.render_turns.proofs.render_voices.Goals as goal

pub loop-k-init : goal.loop-k-init
loop-k-init c =
    (going_begin _ _ _ _ _ _ refl c.requires.fact_1, refl, refl)

pub render_voice-spent-requires : goal.render_voice-spent-requires
render_voice-spent-requires c =
    let l = c.loop-k in
    let test = c.loop-k-test.true in
    let g = l.invariant.0 in
    let playable = g.playing.voices l.k (omega arith) test in record { fact_1 = g.playing.desk; fact_2 = test; fact_3 = playable; fact_4 = record { rows = omega (arith, l.invariant.2, c.requires.fact_2.rows) } }

pub overflow_add-rounds : goal.overflow_add-rounds
overflow_add-rounds c =
    let g = c.loop-k.invariant.0 in
    let few = spent_few _ _ _ _ g c.loop-k-test.true _ c.render_voice-spent.ensures in
    omega (arith, few, g.few, g.playing.desk.allowed.voices)

pub loop-k-preserved : goal.loop-k-preserved
loop-k-preserved c =
    let g = c.loop-k.invariant.0 in
    (going_more _ _ _ _ g c.loop-k-test.true _ c.render_voice-spent.ensures, search rules, search rules)

pub returns : goal.returns
returns c = going_end _ _ _ _ c.loop-k.invariant.0 (omega (arith, c.loop-k-test.false))
