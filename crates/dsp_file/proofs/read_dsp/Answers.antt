-- `dsp_file::read_dsp` meets its contract: each answer is that of the questions asked so far. Assumes nothing.
use Prim.Native.Nat.{◌-◌}
use mathlib.Core.Bool.{true}
use mathlib.Core.Path.{◌≡◌, refl, sym, ap, ◌∙◌}
use native.Mathlib.Omega.{arith}
use borrow.Author.Tests.{le-leb, lt-leb}
use lib.Dec.{leb, eqb}
use lib.ListN.{length}
use Rattle.dsp_header.specs.Header.{header_size, header_of, padding_of}
use Rattle.dsp_file.specs.File.{plain_header, holds_samples, read_left}
use Rattle.dsp_file.proofs.Asked.{read_is}
use Rattle.dsp_file.proofs.read_dsp.Goals as goal
use Rattle.dsp_file.proofs.read_dsp.Goals.{After-holds_samples, After-plain_header, Else-file-lt-HEADER_BYTES, Else-not-padding_is_zero, Else-not-plain_header}

-- ---- what each question has answered

long : (c : Else-file-lt-HEADER_BYTES) → leb header_size (length c.args.file.now) ≡ true
long c = le-leb header_size (length c.args.file.now) (omega arith)

plain : (c : After-plain_header) → plain_header (header_of c.args.file.now) ≡ c.plain_header.result
unfolding plain_header
plain c = ap plain_header (sym c.read_header-header.ensures) ∙ sym c.plain_header.ensures

plain_yes : (c : Else-not-plain_header) → plain_header (header_of c.args.file.now) ≡ true
unfolding plain_header
plain_yes c = ap plain_header (sym c.read_header-header.ensures) ∙ sym c.plain_header.ensures ∙ c.if-not-plain_header.false

padding_yes : (c : Else-not-padding_is_zero) → eqb (padding_of c.args.file.now) 0 ≡ true
padding_yes c = sym c.padding_is_zero.ensures ∙ c.if-not-padding_is_zero.false

holds : (c : After-holds_samples)
    → (holds_samples (header_of c.args.file.now).samples (length c.args.file.now - header_size) ≡ c.holds_samples.result)
holds c =
    let n = length c.args.file.now - header_size in
    (λ i. holds_samples (sym c.read_header-header.ensures i).samples n) ∙ sym c.holds_samples.ensures

-- ---- the goals

pub returns-then-file-lt-HEADER_BYTES : goal.returns-then-file-lt-HEADER_BYTES
returns-then-file-lt-HEADER_BYTES c =
    let file = c.args.file.now in
    sym (read_is file (lt-leb header_size (length file) (omega arith)) refl refl refl)

pub returns-then-not-plain_header : goal.returns-then-not-plain_header
returns-then-not-plain_header c =
    sym
    (read_is c.args.file.now (long (goal.at.returns-then-not-plain_header c).Else-file-lt-HEADER_BYTES)
    (plain (goal.at.returns-then-not-plain_header c).After-plain_header ∙ c.if-not-plain_header.true) refl refl)

pub returns-then-not-padding_is_zero : goal.returns-then-not-padding_is_zero
returns-then-not-padding_is_zero c =
    let padded = sym c.padding_is_zero.ensures ∙ c.if-not-padding_is_zero.true in
    sym
    (read_is c.args.file.now (long (goal.at.returns-then-not-padding_is_zero c).Else-file-lt-HEADER_BYTES)
    (plain_yes (goal.at.returns-then-not-padding_is_zero c).Else-not-plain_header) padded refl)

pub returns-then-not-holds_samples : goal.returns-then-not-holds_samples
returns-then-not-holds_samples c =
    sym
    (read_is c.args.file.now (long (goal.at.returns-then-not-holds_samples c).Else-file-lt-HEADER_BYTES)
    (plain_yes (goal.at.returns-then-not-holds_samples c).Else-not-plain_header) (padding_yes (goal.at.returns-then-not-holds_samples c).Else-not-padding_is_zero) (holds (goal.at.returns-then-not-holds_samples c).After-holds_samples ∙ c.if-not-holds_samples.true))

pub returns : goal.returns
returns c =
    ap (read_left 0) c.read_header-header.ensures
    ∙ sym
    (read_is c.args.file.now (long (goal.at.returns c).Else-file-lt-HEADER_BYTES)
    (plain_yes (goal.at.returns c).Else-not-plain_header) (padding_yes (goal.at.returns c).Else-not-padding_is_zero) (holds (goal.at.returns c).After-holds_samples ∙ c.if-not-holds_samples.false))
