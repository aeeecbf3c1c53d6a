-- `gain::mix_into` meets its contract: the row that is lent to `mix_row` comes back in its place. Assumes nothing.
use Rattle.std.proofs.Common.{◌≡◌, ℕ, ◌+◌, ◌*◌, ◌^◌, ◌<◌, ◌≤◌, false, ◌&&◌, List, length, sym, ap, ◌∙◌, le_of_lt, mul-le-mul, arith}
use lib.Ieee.{Float, eq, of_bits}
use Rattle.floats.specs.Defs.{zero32}
use Rattle.rows.specs.Rows.{part}
use Rattle.rows.specs.Lent.{lent, returned, part_cut, returned_is}
use Rattle.gain.specs.Gain.{mixed, step_of, mix_into}
use Rattle.gain.specs.Laws.{row_mixed, length_row, mix_into_zero, mix_into_out, mix_into_row}
use Rattle.gain.proofs.mix_into.Goals as goal

place : (buffer n : ℕ) → buffer < 2 ^ 24 → n < 2 ^ 24 → buffer * n ≤ 2 ^ 48
place buffer n h g = mul-le-mul (le_of_lt h) (le_of_lt g)

row_back : (buffers : List Float) (buffer n : ℕ) (src : List Float) (from to step : Float) (r : List Float)
    → (eq from zero32 && eq to zero32) ≡ false → buffer * n + n ≤ length buffers → step ≡ step_of from to n
    → r ≡ mixed step from (lent buffers (buffer * n) n) src → returned buffers (buffer * n) n r ≡ mix_into buffers buffer n src from to
row_back buffers buffer n src from to step r z h g e =
    let q : r ≡ row_mixed buffers buffer n src from to =
    e
    ∙ ap (λ (x : List Float). mixed step from x src) (part_cut buffers (buffer * n) n)
    ∙ ap (λ (x : Float). mixed x from (part n (buffer * n) buffers) src) g in
    returned_is buffers (buffer * n) n h q (length_row buffers buffer n src from to h)
    ∙ sym (mix_into_row buffers buffer n src from to z h)

pub returns-then-both : goal.returns-then-both
unfolding of_bits
returns-then-both c = sym (mix_into_zero _ _ _ _ _ _ (sym c.both.ensures ∙ c.if-both.true))

pub overflow_mul-at : goal.overflow_mul-at
overflow_mul-at c = omega (arith, place _ _ c.requires.0 c.requires.1)

pub overflow_add-end : goal.overflow_add-end
overflow_add-end c = omega (arith, place _ _ c.requires.0 c.requires.1)

pub returns-then-end-buffers : goal.returns-then-end-buffers
returns-then-end-buffers c = sym (mix_into_out _ _ _ _ _ _ (omega arith))

pub returns : goal.returns
unfolding of_bits
returns c =
    let a = c.args in
    row_back a.buffers.now a.buffer a.n a.src.now a.from a.to _ _ (sym c.both.ensures ∙ c.if-both.false) (omega (arith, c.if-end-buffers.false))
    c.step_of-step.ensures c.mix_row.ensures
