-- When a voice is routed, computed on sessions. Assumes nothing.
use Rattle.std.specs.Prelude.{◌≡◌, refl, Bool, true, false, List, [], ◌∷◌, map, ℕ, replicate}
use Rattle.secrecy.specs.Sessions.{Call, Said, said_all}
use Rattle.secrecy.specs.Declared.{routed}
use Rattle.secrecy.specs.Computing.{computing}
use Rattle.secrecy.specs.Inputs.{no_mix, no_splitter, new_voice, unused_voice, revision, start, start_for, updating, updating_all, refused, rendering}

-- an update by a record in use, and by one that is not, to a mix and a splitter
abbrev pub to : ℕ → ℕ → Call
to mix splitter = updating (new_voice 0 mix splitter [])

abbrev pub unused : ℕ → ℕ → Call
unused mix splitter = updating (unused_voice 0 mix splitter [])

-- whether the voice is routed before call r, by the revision's word
abbrev pub before : ℕ → ℕ → List Call → Bool
before word r calls = routed (start word) calls r 0

unfoldable pub yes : List Bool
yes =
    -- to a mix, also one that is not there; and it stays so
    before (revision 2) 1 (to 0 no_splitter ∷ [])
    ∷ before (revision 1) 1 (to 0 no_splitter ∷ [])
    ∷ before (revision 2) 1 (to 9 no_splitter ∷ [])
    ∷ before (revision 2) 2 (to no_mix no_splitter ∷ to 0 no_splitter ∷ [])
    ∷ before (revision 2) 2 (to 0 no_splitter ∷ to no_mix no_splitter ∷ [])
    ∷ before (revision 2) 2 (to 0 no_splitter ∷ unused no_mix no_splitter ∷ [])
    -- to a splitter, from revision 2 on; the word 0 passes every "at least"
    ∷ before (revision 2) 1 (to no_mix 3 ∷ [])
    ∷ before 0 1 (to no_mix 3 ∷ [])
    ∷ []

unfoldable pub no : List Bool
no =
    -- only later
    before (revision 2) 0 (to 0 no_splitter ∷ [])
    ∷ before (revision 2) 1 (to no_mix no_splitter ∷ to 0 no_splitter ∷ [])
    -- to neither, and a render routes nothing
    ∷ before (revision 2) 1 (to no_mix no_splitter ∷ [])
    ∷ before (revision 2) 2 (to no_mix no_splitter ∷ rendering [] ∷ [])
    -- to a splitter, below revision 2
    ∷ before (revision 1) 1 (to no_mix 3 ∷ [])
    -- by a record that is not in use
    ∷ before (revision 2) 1 (unused 0 no_splitter ∷ [])
    ∷ before (revision 2) 1 (unused no_mix 3 ∷ [])
    -- by an update that is refused
    ∷ before (revision 2) 1 (refused (new_voice 0 0 no_splitter []) ∷ [])
    ∷ []

pub right : (yes ≡ replicate 8 true) × (no ≡ replicate 8 false)
unfolding computing start_for updating_all refused rendering yes no
right = (refl, refl)

-- that update is refused by 6
pub refusal : map (λ (s : Said). s.number) (said_all (start (revision 2)) (refused (new_voice 0 0 no_splitter []) ∷ to 0 no_splitter ∷ [])) ≡ 6 ∷ 0 ∷ []
unfolding computing start_for updating_all refused
refusal = refl
