-- `Params::effects_bytes` meets its contract: by case. Assumes nothing.
use Rattle.std.proofs.Common.{ℕ, ◌-◌, ◌*◌, ◌/◌, sym, ap, ◌∙◌, div-mul-le_self, arith}
use Rattle.params.specs.Laws.{effects_none, effects_room}
use Rattle.params.proofs.params.Params.effects_bytes.Goals as goal

pub returns-then-self-eq0 : goal.returns-then-self-eq0
returns-then-self-eq0 c = sym (effects_none _ _ (omega arith))

pub overflow_mul-result : goal.overflow_mul-result
overflow_mul-result c =
    omega (arith, div-mul-le_self c.saturating_sub-room.result c.args.self.effects)

pub returns : goal.returns
returns c =
    ap (λ (x : ℕ). x / c.args.self.effects * c.args.self.effects)
    (c.saturating_sub-room.ensures ∙ ap (λ (f : ℕ). c.args.expected - f) c.fixed_output_size.ensures)
    ∙ sym (effects_room _ _ (omega arith))
