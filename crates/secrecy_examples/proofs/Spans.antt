-- What voices 1 and up declare and route, and what each kind of voice declares and reads, computed on sessions of three voices: each
-- list whole. Assumes nothing.
use mathlib.Core.Path.{◌≡◌, refl}
use mathlib.Core.Bool.{true, false}
use mathlib.Core.List.{List, [], ◌∷◌, ◌++◌}
use Prim.Native.Nat.{ℕ, ◌+◌}
use lib.ListN.{replicate}
use Rattle.state.specs.State.{State}
use Rattle.alike.specs.Reads.{Span, span}
use Rattle.secrecy.specs.Sessions.{Call, update}
use Rattle.secrecy.specs.Declared.{declared, routed}
use Rattle.secrecy.specs.Computing.{computing}
use Rattle.secrecy.specs.Inputs.{no_mix, no_splitter, any_voice, new_voice, unused_voice, wave, cut_input, revision, start_for}
use Rattle.secrecy.specs.Inputs.{updating_all, base, rendering}

-- a session's state with three voices
abbrev pub st : State
st = start_for 3 (revision 2)

-- what voice k has declared by call r
abbrev pub by : ℕ → ℕ → List Call → List Span
by k r calls = declared st calls r k

-- of a record whose wave records but the first are zeros
abbrev pub spans_of : ℕ → ℕ → ℕ → ℕ → List Span
spans_of source addr size context =
    span source 32 ∷ span addr size ∷ span context 6 ∷ span 0 0 ∷ span 0 6 ∷ span 0 0 ∷ span 0 6 ∷ span 0 0 ∷ span 0 6 ∷ []

-- ---- voices 0, 1 and 2: 16-bit PCM of one channel, floats of two channels, a format that is not known; the last goes to no mix

abbrev pub three : Call
three =
    updating_all
    (new_voice 0x100 0 no_splitter (wave 0 base 8 4 0x200)
    ∷ any_voice 1 1 0 5 2 1 0x300 0 no_splitter (wave 0 (base + 8) 32 4 0x400)
    ∷ any_voice 1 1 0 3 1 1 0x500 no_mix no_splitter (wave 0 (base + 40) 8 4 0x600)
    ∷ [])

abbrev pub played : Call
played = rendering (replicate 48 0)

-- two samples of 2 bytes; two frames of two floats; nothing is read of a format that is not known
pub kinds : (by 0 1 (three ∷ played ∷ []) ≡ spans_of 0x100 base 8 0x200 ++ (span base 4 ∷ []))
    × (by 1 1 (three ∷ played ∷ []) ≡ spans_of 0x300 (base + 8) 32 0x400 ++ (span (base + 8) 16 ∷ []))
    × (by 1 2 (three ∷ played ∷ played ∷ []) ≡ spans_of 0x300 (base + 8) 32 0x400 ++ (span (base + 8) 16 ∷ span (base + 24) 16 ∷ []))
    × (by 2 1 (three ∷ played ∷ []) ≡ spans_of 0x500 (base + 40) 8 0x600)
unfolding computing start_for updating_all rendering
kinds = (refl, refl, refl, refl)

pub kinds_routed : (routed st (three ∷ []) 1 0 ≡ true) × (routed st (three ∷ []) 1 1 ≡ true) × (routed st (three ∷ []) 1 2 ≡ false)
unfolding computing start_for updating_all
kinds_routed = (refl, refl, refl)

-- ---- voices 0, 1 and 2: paused, asked to stop, without a buffer queued; all are routed and declare, and none reads

abbrev pub still : Call
still =
    updating_all
    (any_voice 1 1 2 2 1 1 0x100 0 no_splitter (wave 0 base 8 4 0x200)
    ∷ any_voice 1 1 1 2 1 1 0x300 0 no_splitter (wave 0 base 8 4 0x400)
    ∷ any_voice 1 1 0 2 1 0 0x500 0 no_splitter (wave 0 base 8 4 0x600)
    ∷ [])

pub no_reads : (by 0 1 (still ∷ played ∷ []) ≡ spans_of 0x100 base 8 0x200)
    × (by 1 1 (still ∷ played ∷ []) ≡ spans_of 0x300 base 8 0x400)
    × (by 2 1 (still ∷ played ∷ []) ≡ spans_of 0x500 base 8 0x600)
unfolding computing start_for updating_all rendering
no_reads = (refl, refl, refl)

pub still_routed : (routed st (still ∷ []) 1 0 ≡ true) × (routed st (still ∷ []) 1 1 ≡ true) × (routed st (still ∷ []) 1 2 ≡ true)
unfolding computing start_for updating_all
still_routed = (refl, refl, refl)

-- ---- voice 0 not in use; voice 1 whole; the record of voice 2 a byte too short: voices 0 and 2 declare and route nothing

abbrev pub cut_short : Call
cut_short =
    update 0
    (cut_input 0x44f
    (unused_voice 0x100 0 no_splitter (wave 0 base 8 4 0x200)
    ∷ new_voice 0x300 0 no_splitter (wave 0 base 8 4 0x400)
    ∷ new_voice 0x500 0 no_splitter (wave 0 base 8 4 0x600)
    ∷ []))
    (replicate 0x300 0)

pub cut : (by 0 1 (cut_short ∷ played ∷ []) ≡ [])
    × (by 1 1 (cut_short ∷ played ∷ []) ≡ spans_of 0x300 base 8 0x400 ++ (span base 4 ∷ []))
    × (by 2 1 (cut_short ∷ played ∷ []) ≡ [])
unfolding computing start_for cut_input rendering
cut = (refl, refl, refl)

pub cut_routed : (routed st (cut_short ∷ []) 1 0 ≡ false) × (routed st (cut_short ∷ []) 1 1 ≡ true) × (routed st (cut_short ∷ []) 1 2 ≡ false)
unfolding computing start_for cut_input
cut_routed = (refl, refl, refl)

-- all of it is added up: voice 1 by the three records and its reads
pub added : by 1 3 (three ∷ played ∷ still ∷ cut_short ∷ [])
    ≡ spans_of 0x300 (base + 8) 32 0x400 ++ (span (base + 8) 16 ∷ (spans_of 0x300 base 8 0x400 ++ spans_of 0x300 base 8 0x400))
unfolding computing start_for updating_all cut_input rendering
added = refl
