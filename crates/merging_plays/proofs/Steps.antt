-- Two states with voice k in common still have it in common after updates with one record for it, and after renders of the same ranges.
-- Assumes nothing.
use mathlib.Core.Path.{◌≡◌, refl, sym, subst, ◌∙◌}
use mathlib.Core.List.{List, [], ◌∷◌}
use Prim.Native.Nat.{ℕ, zero, suc, ◌<◌}
use native.Mathlib.Omega.{arith}
use lib.Ieee.{Float}
use lib.ListN.{length, drop}
use Rattle.ranges.specs.Ranges.{Range}
use Rattle.ranges.specs.Ascending.{Ascending}
use Rattle.params.specs.declared.params.Params.{Params}
use Rattle.state.specs.State.{State, params_in}
use Rattle.voices.specs.Voices.{voice_record}
use Rattle.updates.specs.Update.{updated}
use Rattle.update_keeps.specs.Update.{update_params, update_whole}
use Rattle.update_alike.specs.VoiceAfter.{voice_after}
use Rattle.update_alike.proofs.Updated.{updated_voice}
use Rattle.voice_render.specs.Next.{next_voice}
use Rattle.render.specs.Render.{render_of, rendered_by}
use Rattle.render_keeps.specs.Keeps.{render_params, render_whole}
use Rattle.render_alike.specs.Voices.{rendered_voice}
use Rattle.calls.specs.Calls.{render_done}
use Rattle.calls.specs.Sections.{wide_in, section_done}
use Rattle.merging_plays.specs.Own.{Own}

-- under other names of the states
pub own_at : {p : Params} {k : ℕ} {a a' b b' : State} → a' ≡ a → b' ≡ b → Own p k a b → Own p k a' b'
own_at {p} {k} {a} {a'} {b} ea eb o = subst (Own p k a') (sym eb) (subst (λ (x : State). Own p k x b) (sym ea) o)

module _ {p : Params} {k : ℕ} (h : k < p.voices) {a b : State} (o : Own p k a b) where
  pub params_both : params_in a ≡ params_in b
  params_both = o.left_params ∙ sym o.right_params

  pub in_left : k < (params_in a).voices
  in_left = subst (λ (q : Params). k < q.voices) (sym o.left_params) h

  pub in_right : k < (params_in b).voices
  in_right = subst (λ (q : Params). k < q.voices) (sym o.right_params) h

  -- updates with one record of voice k, each with at least one byte
  pub updated_own : (input input' : List ℕ) → 0 < length input → 0 < length input' → voice_record input k ≡ voice_record input' k
      → Own p k (updated (params_in a) input a) (updated (params_in b) input' b)
  updated_own input input' some some' e = record {
    left = update_whole a o.left input;
    right = update_whole b o.right input';
    left_params = update_params a o.left input ∙ o.left_params;
    right_params = update_params b o.right input' ∙ o.right_params;
    voice =
        updated_voice (params_in a) o.left.allowed input some o.left.sized k in_left
        ∙ (λ i. voice_after (params_both i) (e i) (o.voice i))
        ∙ sym (updated_voice (params_in b) o.right.allowed input' some' o.right.sized k in_right);
  }

  -- updates with one input, which may be empty
  pub same_own : (input : List ℕ) → Own p k (updated (params_in a) input a) (updated (params_in b) input b)
  same_own [] = unfold updated in o
  same_own (x ∷ xs) = updated_own (x ∷ xs) (x ∷ xs) (omega arith) (omega arith) refl

  -- a render of each
  module _ (rs : List Range) (m m' : List ℕ) (laid : Ascending (length m) 0 rs) (laid' : Ascending (length m') 0 rs) where
    rendered_own : (frames frames' : List Float)
        → Own p k (rendered_by (params_in a) rs m a frames).state (rendered_by (params_in b) rs m' b frames').state
    rendered_own frames frames' = record {
      left = render_whole a o.left rs m laid frames;
      right = render_whole b o.right rs m' laid' frames';
      left_params = render_params a o.left rs m laid frames ∙ o.left_params;
      right_params = render_params b o.right rs m' laid' frames' ∙ o.right_params;
      voice =
          rendered_voice a o.left rs m laid frames k in_left
          ∙ (λ i. next_voice (render_of (params_both i) rs) (o.voice i))
          ∙ sym (rendered_voice b o.right rs m' laid' frames' k in_right);
    }

-- so many renders of each, one after the other
pub renders_own : {p : Params} {k : ℕ} → k < p.voices → (rs : List Range) (m m' : List ℕ) → Ascending (length m) 0 rs
    → Ascending (length m') 0 rs → (count : ℕ) {a b : State} → Own p k a b → (frames frames' : List Float)
    → Own p k (section_done count a rs m frames).state (section_done count b rs m' frames').state
unfolding section_done render_done
renders_own h rs m m' laid laid' zero o frames frames' = o
renders_own h rs m m' laid laid' (suc n) {a} {b} o frames frames' =
    let x = render_done a rs m frames in
    let y = render_done b rs m' frames' in
    renders_own h rs m m' laid laid' n (rendered_own h o rs m m' laid laid' frames frames') (drop (wide_in a) x.frames)
    (drop (wide_in b) y.frames)
