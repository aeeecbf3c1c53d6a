-- `session::first_call` meets its contract, by the byte at the front. Assumes nothing.
use Rattle.session.specs.Calls.{call_render, call_other, call_short, call_update}
use Rattle.session.proofs.input.first_call.Goals as goal

pub returns-then-kind-eq1 : goal.returns-then-kind-eq1
returns-then-kind-eq1 c = call_render _ c.byte_at-kind.ensures c.if-kind-eq1.true

pub returns-then-kind-ne0 : goal.returns-then-kind-ne0
returns-then-kind-ne0 c = call_other _ c.byte_at-kind.ensures c.if-kind-eq1.false c.if-kind-ne0.true

pub returns-then-d-size : goal.returns-then-d-size
returns-then-d-size c =
    call_short _ c.byte_at-kind.ensures c.if-kind-ne0.false c.u32_at-size.ensures c.if-d-size.true

pub returns : goal.returns
returns c =
    call_update _ c.byte_at-kind.ensures c.if-kind-ne0.false c.u32_at-size.ensures c.u32_at-expected.ensures c.if-d-size.false
