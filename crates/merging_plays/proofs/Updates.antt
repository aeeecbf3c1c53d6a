-- An update of each of two states with voice k in common: they tell the same of it. Assumes nothing.
use mathlib.Core.Path.{◌≡◌, refl, ap, sym, subst, ◌∙◌}
use mathlib.Core.Bool.{Bool, true, false, cond}
use mathlib.Core.List.{List, []}
use Prim.Native.Nat.{ℕ, ◌≤◌, ◌<◌}
use borrow.Author.Tests.{leb-true}
use lib.Dec.{leb, eqb}
use lib.ListN.{length, take}
use Rattle.rows.specs.Rows.{put}
use Rattle.params.specs.declared.params.Params.{Params}
use Rattle.params.specs.Sizes.{reply_length}
use Rattle.state.specs.State.{State, params_in}
use Rattle.reply.specs.Reply.{status_in}
use Rattle.updates.specs.Update.{updated, update_reply}
use Rattle.state_voices.specs.StateVoices.{voice_in}
use Rattle.calls.specs.Calls.{UpdateOutcome, update_done, update_call}
use Rattle.secrecy.specs.Sessions.{update}
use Rattle.secrecy.specs.Updates.{room_by, update_is, reply_front}
use Rattle.secrecy_items.specs.Items.{Item, single, after_item}
use Rattle.merging_plays.specs.Own.{Own}
use Rattle.merging_plays.specs.VoiceStatus.{voice_status}
use Rattle.merging_plays.specs.Told.{Told, told_of, told_item}
use Rattle.merging_plays.proofs.Status.{reply_voice}
use Rattle.merging_plays.proofs.Steps.{params_both, in_left, in_right}

-- an item of each of two states: it tells the same of voice k, and leaves it in common
pub record ToldAlike (p : Params) (k : ℕ) (a b : State) (x x' : Item) : Type 0 where
  pub told : told_item k a x ≡ told_item k b x'
  pub own : Own p k (after_item a x) (after_item b x')

-- what an update's outcome tells
abbrev told_by : Params → ℕ → UpdateOutcome → Told
told_by q k o = told_of o.number (cond (eqb o.number 0) (status_in q k (take o.size o.reply)) []) 0

-- the voice's 16 bytes in a reply that stands at the front of its slice
front_status : (q : Params) (expected : ℕ) (input : List ℕ) (u : State) (reply : List ℕ) → reply_length q expected ≤ length reply
    → (k : ℕ) → k < q.voices
    → status_in q k (take (reply_length q expected) (put reply 0 (update_reply q expected input u))) ≡ voice_status (voice_in k u)
front_status q expected input u reply room k h =
    ap (status_in q k) (reply_front q expected input u reply room) ∙ reply_voice q u k h expected input

-- updates with two inputs that leave voice k in common, with one expected size and reply slices of equal lengths
module _ {p : Params} {k : ℕ} (h : k < p.voices) {a b : State} (o : Own p k a b) (expected : ℕ) (input input' : List ℕ)
    (after : Own p k (updated (params_in a) input a) (updated (params_in b) input' b)) (reply reply' : List ℕ)
    (long : length reply ≡ length reply') where
  -- two outcomes that tell the same and leave it in common
  record Outcomes (x y : UpdateOutcome) : Type 0 where
    told : told_by (params_in a) k x ≡ told_by (params_in b) k y
    own : Own p k x.state y.state

  -- by whether there is room for the reply
  by_room : (t : Bool) → leb (reply_length (params_in a) expected) (length reply) ≡ t
      → Outcomes (room_by t a expected input reply) (room_by t b expected input' reply')
  unfolding room_by update_done
  by_room true e =
      let room : reply_length (params_in a) expected ≤ length reply = leb-true _ _ e in
      let room' : reply_length (params_in b) expected ≤ length reply' = rw (← params_both h o, ← long) room in
      let status = front_status (params_in a) expected input (updated (params_in a) input a) reply room k (in_left h o)
      ∙ ap voice_status after.voice
      ∙ sym (front_status (params_in b) expected input' (updated (params_in b) input' b) reply' room' k (in_right h o)) in
      record { told = λ i. told_of 0 (status i) 0; own = after }
  by_room false e = record { told = refl; own = o }

  update_outcomes : Outcomes (update_call a expected input reply) (update_call b expected input' reply')
  update_outcomes =
      let t = leb (reply_length (params_in a) expected) (length reply) in
      let t' = leb (reply_length (params_in b) expected) (length reply') in
      let same : room_by t b expected input' reply' ≡ room_by t' b expected input' reply' =
      λ i. room_by (leb (reply_length (params_both h o i) expected) (long i)) b expected input' reply' in
      subst (λ (x : UpdateOutcome). Outcomes x (update_call b expected input' reply')) (sym (update_is a o.left expected input reply))
      (subst (Outcomes (room_by t a expected input reply)) (same ∙ sym (update_is b o.right expected input' reply')) (by_room t refl))

  pub updates_tell : ToldAlike p k a b (single (update expected input reply)) (single (update expected input' reply'))
  updates_tell = record { told = update_outcomes.told; own = update_outcomes.own }
