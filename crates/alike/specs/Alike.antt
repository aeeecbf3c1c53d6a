-- Two states that differ at most in sound. Definitions only.
use Rattle.std.specs.Prelude.{◌≡◌, Bool, ◌&&◌, ℕ, ◌*◌, ◌<◌, T}
use mathlib.Core.List.{List, Memᴰ}
use Rattle.rows.specs.Rows.{part}
use Rattle.ranges.specs.Ranges.{Range}
use Rattle.memory.specs.Memory.{read_of}
use Rattle.params.specs.declared.params.Params.{Params}
use Rattle.state.specs.State.{State}
use Rattle.voice.specs.declared.Voice.{Voice}
use Rattle.voice.specs.Voice.{has_destination}
use Rattle.alike.specs.Reads.{Span}

-- of all that replies, refusals, rounds and positions follow from they are the same; so is the sound of each voice of P
pub record Alike (p : Params) (P : ℕ → Type 0) (a b : State) : Type 0 where
  pub words : a.words ≡ b.words
  pub longs : a.longs ≡ b.longs
  pub floats : a.floats ≡ b.floats
  pub contexts : (k : ℕ) → k < p.voices → P k → part 3 (k * 3) a.contexts ≡ part 3 (k * 3) b.contexts
  pub history : (k : ℕ) → k < p.voices → P k → part 18 (k * 18) a.history ≡ part 18 (k * 18) b.history

-- two memories in the same ranges give the same bytes to each of these reads
abbrev pub SameReads : List Range → List ℕ → List ℕ → List Span → Type 0
SameReads rs m m' reads = (s : Span) → Memᴰ s reads → read_of rs m s.at s.long ≡ read_of rs m' s.at s.long

-- a voice that can be heard: it is in use and has a destination
unfoldable pub live : Voice → Bool
unfolding has_destination
live v = v.in_use && has_destination v.mix_id v.splitter_id

-- each voice of the state that can be heard is one of P
abbrev pub Named : Params → (ℕ → Type 0) → (ℕ → Voice) → Type 0
Named p P voice = (k : ℕ) → k < p.voices → T (live (voice k)) → P k
