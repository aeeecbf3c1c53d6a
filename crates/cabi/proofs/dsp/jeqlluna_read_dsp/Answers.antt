-- `cabi::dsp::jeqlluna_read_dsp` meets its contract. Assumes nothing.
use Prim.Native.Nat.{ℕ, zero, suc, ◌<◌}
use mathlib.Core.List.{List, [], ◌∷◌}
use lib.IntN.{ℤ, pos}
use mathlib.Core.Path.{◌≡◌, refl, ap, sym, ◌∙◌}
use native.Mathlib.Omega.{arith}
use lib.ListN.{length, get_or, replicate}
use Rattle.dsp_file.specs.declared.DspError.{DspError}
use Rattle.dsp_file.specs.declared.DspError.TheVariants.{Header, Short}
use Rattle.dsp_file.specs.File.{ReadOutcome, number_of, no_header}
use Rattle.cabi.proofs.Told.{placed_read, placed_refused}
use Rattle.cabi.proofs.dsp.jeqlluna_read_dsp.Goals as goal
use Rattle.cabi.proofs.dsp.jeqlluna_read_dsp.Goals.{After-default}

-- an error's number is not 0
some_number : (e : DspError) → number_of e ≡ 0 → ⊥
some_number Header z = omega arith
some_number Short z = omega arith

pub returns-in-Ok : goal.returns-in-Ok
returns-in-Ok c =
    placed_read _ c.args.file.now
    (ap (λ (o : ReadOutcome). o.number) c.in-Ok.ensures)
    (c.header_told.ensures ∙ ap (λ (o : ReadOutcome). o.header) c.in-Ok.ensures) refl
    (ap length c.dsp_data.ensures)

-- a list of zeros
zeros_of : (l : List ℤ) (n : ℕ) → length l ≡ n → ((i : ℕ) (d : ℤ) → i < n → get_or l i d ≡ pos 0) → l ≡ replicate n (pos 0)
zeros_of [] zero e h = refl
zeros_of [] (suc n) e h = absurd (omega arith)
zeros_of (x ∷ l) zero e h = absurd (omega arith)
zeros_of (x ∷ l) (suc n) e h =
    λ i. h 0 (pos 0) (omega arith) i ∷ zeros_of l n (omega arith) (λ j d p. h (suc j) d (omega arith)) i

-- the default header is that of zeros
zeros_are : (c : After-default) → c.default.result ≡ no_header
zeros_are c =
    let d0 = c.default.ensures in
    let d1 = d0.1 in
    let d2 = d1.1 in
    let d3 = d2.1 in
    let d4 = d3.1 in
    let d5 = d4.1 in
    let d6 = d5.1 in
    let d7 = d6.1 in
    let d8 = d7.1 in
    let d9 = d8.1 in
    let d10 = d9.1 in
    let start = d10.0 in
    let loop = d10.1 in
    let sixteen = zeros_of _ 16 d8.0.long d8.0.at in
    λ i.
    record {
      samples = d0.0 i;
      nibbles = d1.0 i;
      rate = d2.0 i;
      loop_flag = d3.0 i;
      format = d4.0 i;
      loop_start = d5.0 i;
      loop_end = d6.0 i;
      address = d7.0 i;
      coefficients = sixteen i;
      gain = d9.0 i;
      start_context = record { pred_scale = start.0 i; history0 = start.1.0 i; history1 = start.1.1 i };
      loop_context = record { pred_scale = loop.0 i; history0 = loop.1.0 i; history1 = loop.1.1 i };
    }

pub returns-in-Err : goal.returns-in-Err
returns-in-Err c =
    placed_refused _ c.args.file.now
    (c.number.ensures ∙ ap (λ (o : ReadOutcome). o.number) c.in-Err.ensures)
    (c.header_told-in-Err.ensures ∙ zeros_are (goal.at.returns-in-Err c).After-default ∙ ap (λ (o : ReadOutcome). o.header) c.in-Err.ensures)
    (λ z. some_number c.in-Err.e (sym c.number.ensures ∙ z))
