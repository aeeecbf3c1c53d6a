-- `dsp_file::write_dsp` meets its contract: each answer is that of the questions asked so far. Assumes nothing.
use Prim.Native.Nat.{◌+◌, ◌≤◌}
use mathlib.Core.Bool.{true}
use mathlib.Core.Path.{◌≡◌, refl, sym, ap, ◌∙◌}
use native.Mathlib.Omega.{arith}
use borrow.Author.Tests.{leb-true}
use lib.ListN.{length}
use Rattle.dsp_header.specs.Header.{header_size, header_bytes}
use Rattle.dsp_header.proofs.Laid.{laid_first, laid_next}
use Rattle.dsp_header.proofs.Sizes.{length_header}
use Rattle.dsp_file.specs.File.{plain_header, has_room, write_left}
use Rattle.dsp_file.proofs.Asked.{write_is}
use Rattle.dsp_file.proofs.write_dsp.Goals as goal
use Rattle.dsp_file.proofs.write_dsp.Goals.{After-plain_header, Else-not-has_room, Else-not-holds_samples, Else-not-plain_header}

-- ---- what each question has answered

plain : (c : After-plain_header) → plain_header c.args.header ≡ c.plain_header.result
unfolding plain_header
plain c = sym c.plain_header.ensures

plain_yes : (c : Else-not-plain_header) → plain_header c.args.header ≡ true
unfolding plain_header
plain_yes c = sym c.plain_header.ensures ∙ c.if-not-plain_header.false

holds_yes : (c : Else-not-holds_samples) → c.holds_samples.result ≡ true
holds_yes c = c.if-not-holds_samples.false

room_yes : (c : Else-not-has_room) → c.has_room.result ≡ true
room_yes c = c.if-not-has_room.false

-- the file fits
room : (c : Else-not-has_room)
    → (header_size + length c.args.«data».now ≤ length c.args.output.now)
unfolding has_room
room c =
    leb-true (header_size + length c.args.«data».now) (length c.args.output.now) (sym c.has_room.ensures ∙ room_yes c)

-- ---- the goals

pub returns-then-not-plain_header : goal.returns-then-not-plain_header
returns-then-not-plain_header c = sym (write_is _ _ _ (plain (goal.at.returns-then-not-plain_header c).After-plain_header ∙ c.if-not-plain_header.true) refl refl)

pub returns-then-not-holds_samples : goal.returns-then-not-holds_samples
returns-then-not-holds_samples c =
    sym (write_is _ _ _ (plain_yes (goal.at.returns-then-not-holds_samples c).Else-not-plain_header) (sym c.holds_samples.ensures ∙ c.if-not-holds_samples.true) refl)

pub returns-then-not-has_room : goal.returns-then-not-has_room
returns-then-not-has_room c =
    sym (write_is _ _ _ (plain_yes (goal.at.returns-then-not-has_room c).Else-not-plain_header) (sym c.holds_samples.ensures ∙ holds_yes (goal.at.returns-then-not-has_room c).Else-not-holds_samples)
    (sym c.has_room.ensures ∙ c.if-not-has_room.true))

pub put_header-requires : goal.put_header-requires
put_header-requires c = omega (arith, room (goal.at.put_header-requires c).Else-not-has_room)

pub copy_in-requires : goal.copy_in-requires
copy_in-requires c = omega (arith, room (goal.at.copy_in-requires c).Else-not-has_room)

pub returns : goal.returns
returns c =
    let file = laid_next (laid_first 0 (header_bytes c.args.header) header_size (length_header c.args.header) c.put_header.ensures)
    c.args.«data».now (length c.args.«data».now) refl (omega (arith, room (goal.at.returns c).Else-not-has_room)) c.copy_in.ensures in
    ap (write_left 0 (header_size + length c.args.«data».now)) file.done
    ∙ sym (write_is _ _ _ (plain_yes (goal.at.returns c).Else-not-plain_header) (sym c.holds_samples.ensures ∙ holds_yes (goal.at.returns c).Else-not-holds_samples)
    (sym c.has_room.ensures ∙ room_yes (goal.at.returns c).Else-not-has_room))
