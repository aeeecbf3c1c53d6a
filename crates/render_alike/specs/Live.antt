-- A turn neither makes a voice one that can be heard nor ends that; and only such a voice is heard. Assumes nothing.
use Rattle.std.specs.Prelude.{◌≡◌, refl, Bool, true, false, ◌&&◌, List, ℕ, ◌<◌, T, Float, length}
use Rattle.std.proofs.Common.{ap, sym, subst, ◌∙◌}
use Rattle.ranges.specs.Ranges.{Range}
use Rattle.ranges.specs.Ascending.{Ascending}
use Rattle.state.specs.State.{State, params_in}
use Rattle.voice.specs.declared.play.Play.{Play}
use Rattle.voice.specs.declared.queue.Queue.{Queue}
use Rattle.voice.specs.declared.Voice.{Voice}
use Rattle.voice.specs.Voice.{with as prepared}
use Rattle.turn.specs.Render.{Render}
use Rattle.turn.specs.Turn.{takes_part, unfresh, finished, turn_of}
use Rattle.turn.specs.Begins.{begin_same}
use Rattle.voice_sends.specs.Laws.{and_left}
use Rattle.whole.specs.Whole.{Whole}
use Rattle.state_voices.specs.StateVoices.{voice_in, begun_voice}
use Rattle.voice_turn.specs.Played.{destined}
use Rattle.voice_render.specs.Next.{ready_voice, next_voice}
use Rattle.render.specs.Render.{rendered_by}
use Rattle.alike.specs.Alike.{live}
use Rattle.render_alike.specs.Voices.{rendered_voice}

-- ---- before a turn fetches

-- what it leaves of a voice
begun_same : (f : Voice → Bool) → ((p : Play) (n : ℕ) (q : Queue) (x : Float) (v : Voice) → f (prepared p n q x v) ≡ f v) → ((v : Voice) → f (unfresh v) ≡ f v)
    → (d : Bool) (v : Voice) → f (begun_voice d v).voice ≡ f v
unfolding begun_voice
begun_same f same fresh true v = begin_same f same v (fresh v)
begun_same f same fresh false v = refl

begun_live : (d : Bool) (v : Voice) → live (begun_voice d v).voice ≡ live v
unfolding live
begun_live = begun_same live (λ p n q x v. refl) (λ v. refl)

begun_destined : (d : Bool) (v : Voice) → destined (begun_voice d v).voice ≡ destined v
begun_destined = begun_same (λ v. destined v) (λ p n q x v. refl) (λ v. refl)

-- a voice that is ready takes part
ready_takes : (d : Bool) (v : Voice) → (begun_voice d v).ready ≡ true → d ≡ true
unfolding begun_voice
ready_takes true v h = refl
ready_takes false v h = h

-- so one that is ready and has a destination can be heard
pub ready_live : (v : Voice) → (begun_voice (takes_part v) v).ready ≡ true → T (destined (begun_voice (takes_part v) v).voice) → T (live v)
unfolding live takes_part
ready_live v h t =
    let used = and_left v.in_use _ (ready_takes (takes_part v) v h) in
    subst T (begun_destined (takes_part v) v ∙ ap (λ (u : Bool). u && destined v) (sym used)) t

-- ---- after a turn

turned_live : (t : Bool) (r : Render) (v : Voice) → live (ready_voice t r v) ≡ live v
unfolding ready_voice turn_of finished live
turned_live true r v = refl
turned_live false r v = refl

pub next_live : (r : Render) (v : Voice) → live (next_voice r v) ≡ live v
unfolding next_voice
next_live r v = let b = begun_voice (takes_part v) v in turned_live b.ready r b.voice ∙ begun_live (takes_part v) v

-- each voice that can be heard after a render could be before it
pub render_live : (st : State) → Whole st → (rs : List Range) (m : List ℕ) → Ascending (length m) 0 rs → (frames : List Float)
    → (k : ℕ) → k < (params_in st).voices
    → T (live (voice_in k (rendered_by (params_in st) rs m st frames).state)) → T (live (voice_in k st))
render_live st w rs m laid frames k l = subst T (ap live (rendered_voice st w rs m laid frames k l) ∙ next_live _ (voice_in k st))
