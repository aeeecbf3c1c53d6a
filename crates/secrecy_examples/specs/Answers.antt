-- What the calls of a session of one voice, of revision 2, answer. Definitions only.
use Rattle.std.specs.Prelude.{[], ◌∷◌, ℕ}
use Rattle.secrecy.specs.Sessions.{Said}
use Rattle.secrecy.specs.Inputs.{word, long, laid_from, revision}

-- an update's, whose reply has what the voice has played and consumed
abbrev pub told : ℕ → ℕ → Said
told played consumed = record {
  number = 0;
  size = 0x170;
  reply = laid_from 0 0x170
      (word 0x00 (revision 2) ∷ word 0x04 0xb0 ∷ word 0x08 0x40 ∷ word 0x0c 0x10 ∷ word 0x1c 0x20 ∷ word 0x20 0x10 ∷ word 0x3c 0x170
      ∷ long 0x80 played ∷ word 0x88 consumed ∷ []);
  rounds = 0;
}

-- a render's
abbrev pub rendered : ℕ → Said
rendered rounds = record { number = 0; size = 0; reply = []; rounds = rounds }
