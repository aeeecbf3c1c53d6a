-- What the items of a session tell of voice k. Definitions only.
use Rattle.std.specs.Prelude.{cond, List, [], ◌∷◌, ℕ, zero, suc, ◌+◌, eqb}
use Rattle.state.specs.State.{State, params_in}
use Rattle.voice.specs.declared.Voice.{Voice}
use Rattle.reply.specs.Reply.{status_in}
use Rattle.turn.specs.Render.{Render}
use Rattle.state_voices.specs.StateVoices.{voice_in}
use Rattle.voice_render.specs.Next.{next_voice, voice_rounds}
use Rattle.render.specs.Render.{render_of}
use Rattle.secrecy.specs.Sessions.{update, render}
use Rattle.secrecy_items.specs.Items.{Item, single, section, after_item, said_item}

-- 0 where the item succeeds, or the refusal's number; the voice's 16 bytes of an update's reply; the rounds of the voice's fetches
pub record Told : Type 0 where
  pub number : ℕ
  pub status : List ℕ
  pub rounds : ℕ

abbrev pub told_of : ℕ → List ℕ → ℕ → Told
told_of number status rounds = record { number = number; status = status; rounds = rounds }

-- a voice's rounds in so many renders one after the other
unfoldable pub rounds_over : ℕ → Render → Voice → ℕ
rounds_over zero r v = 0
rounds_over (suc n) r v = voice_rounds r v + rounds_over n r (next_voice r v)

-- by an item from a state; one that is refused tells its number alone
abbrev pub told_item : ℕ → State → Item → Told
told_item k st (single (update expected input reply)) =
    let s = said_item st (single (update expected input reply)) in
    told_of s.number (cond (eqb s.number 0) (status_in (params_in st) k s.reply) []) 0
told_item k st (single (render rs m frames)) =
    let s = said_item st (single (render rs m frames)) in
    told_of s.number [] (cond (eqb s.number 0) (voice_rounds (render_of (params_in st) rs) (voice_in k st)) 0)
told_item k st (section count rs m frames) =
    let s = said_item st (section count rs m frames) in
    told_of s.number [] (cond (eqb s.number 0) (rounds_over count (render_of (params_in st) rs) (voice_in k st)) 0)

-- by a list of items, one after the other
abbrev pub told_items : ℕ → State → List Item → List Told
told_items k st [] = []
told_items k st (x ∷ xs) = told_item k st x ∷ told_items k (after_item st x) xs
