-- The reads of sample memory that a voice's turn makes (mixer.rs `fetch`), each of which succeeds: the coefficients, then for each round
-- the context and the samples. They follow from the voice and the render, and no byte of sample memory. Definitions only.
use Rattle.std.specs.Prelude.{Bool, true, false, cond, List, [], ◌∷◌, ◌++◌, Option, Some, None, ℕ, ◌*◌}
use Rattle.voice.specs.declared.Voice.{Voice}
use Rattle.plan.specs.Source.{Source}
use Rattle.plan.specs.declared.Act.{Act}
use Rattle.plan.specs.declared.Decode.{Decode}
use Rattle.plan.specs.declared.Decode.TheVariants.{Nothing, Pcm, Adpcm, Silence}
use Rattle.plan.specs.Rounds.{Planned}
use Rattle.turn.specs.Render.{Render}
use Rattle.turn.specs.Turn.{takes_part, source_of, turn_of}
use Rattle.state_voices.specs.StateVoices.{begun_voice}

-- `long` bytes from an address on
pub record Span : Type 0 where
  pub at : ℕ
  pub long : ℕ

abbrev pub span : ℕ → ℕ → Span
span at long = record { at = at; long = long }

-- ---- by a plan

-- the samples of a round
unfoldable pub decode_reads : Source → Decode → List Span
decode_reads s Nothing = []
decode_reads s (Pcm width addr n) = span addr (n * (width * s.channels)) ∷ []
decode_reads s (Adpcm want addr bytes start) = span addr bytes ∷ []
decode_reads s (Silence n) = []

-- the context of a round, where it is read anew
unfoldable pub context_reads : Option ℕ → List Span
context_reads None = []
context_reads (Some addr) = span addr 6 ∷ []

-- a round: its context where that is read anew, then its samples
unfoldable pub act_reads : Source → Act → List Span
unfolding context_reads decode_reads
act_reads s a = context_reads a.context ++ decode_reads s a.decode

unfoldable pub acts_reads : Source → List Act → List Span
unfolding act_reads
acts_reads s [] = []
acts_reads s (a ∷ acts) = act_reads s a ++ acts_reads s acts

-- the coefficients where they can be read, then the rounds
unfoldable pub plan_reads : Source → Planned → List Span
unfolding acts_reads
plan_reads s q = cond q.table (span s.data_source 32 ∷ []) [] ++ acts_reads s q.acts

-- ---- by a voice

-- by whether it is ready
unfoldable pub ready_reads : Bool → Render → Voice → List Span
unfolding plan_reads turn_of
ready_reads true r v = plan_reads (source_of v r) (turn_of v r).plan
ready_reads false r v = []

unfoldable pub voice_reads : Render → Voice → List Span
unfolding ready_reads begun_voice takes_part
voice_reads r v =
    let b = begun_voice (takes_part v) v in
    ready_reads b.ready r b.voice
