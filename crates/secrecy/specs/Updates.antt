-- An update at the same place of two sessions: it says the same, and leaves states that are as before. Assumes nothing.
use Rattle.std.specs.Prelude.{◌≡◌, refl, Bool, cond, List, ℕ, ◌≤◌, leb, take, get_or}
use Rattle.std.proofs.Math.Path.{ap, sym}
use Rattle.std.proofs.Common.{subst, ◌∙◌, arith}
use Rattle.std.proofs.Math.Bool.{true, false}
use borrow.Author.Tests.{leb-true}
use Rattle.std.proofs.Math.ListN.{length}
use Rattle.rows.specs.Rows.{part, put, part_put_same}
use Rattle.params.specs.declared.params.Params.{Params}
use Rattle.params.specs.Sizes.{reply_length}
use Rattle.state.specs.State.{State, Sized, params_in, voice_words_in, voice_longs_in}
use Rattle.whole.specs.Whole.{Whole, whole_is}
use Rattle.reply.specs.Reply.{reply_of}
use Rattle.reply.specs.Laws.{length_reply}
use Rattle.updates.specs.Update.{updated, update_reply}
use Rattle.update_keeps.specs.Update.{update_params, update_whole}
use Rattle.alike.specs.Alike.{Alike}
use Rattle.update_alike.specs.Alike.{updated_alike}
use Rattle.calls.specs.Calls.{UpdateOutcome, update_left, update_done, update_call}
use Rattle.secrecy.specs.Both.{Both, params_same}

pub record UpdatesAlike (p : Params) (P : ℕ → Type 0) (x y : UpdateOutcome) : Type 0 where
  pub number : x.number ≡ y.number
  pub size : x.size ≡ y.size
  pub reply : take x.size x.reply ≡ take y.size y.reply
  pub both : Both p P x.state y.state

-- what an update of a whole state does, by whether there is room for the reply
unfoldable pub room_by : Bool → State → ℕ → List ℕ → List ℕ → UpdateOutcome
unfolding update_done
room_by room st expected input reply = cond room (update_done st expected input reply) (update_left 6 0 st reply)

pub update_is : (st : State) → Whole st → (expected : ℕ) (input reply : List ℕ)
    → update_call st expected input reply ≡ room_by (leb (reply_length (params_in st) expected) (length reply)) st expected input reply
unfolding update_call room_by
update_is st w expected input reply = rw (whole_is st w)

-- the reply stands at the front of its slice
pub reply_front : (p : Params) (expected : ℕ) (input : List ℕ) (st : State) (reply : List ℕ) → reply_length p expected ≤ length reply
    → take (reply_length p expected) (put reply 0 (update_reply p expected input st)) ≡ update_reply p expected input st
unfolding update_reply part
reply_front p expected input st reply h =
    let long = length_reply p expected input (get_or st.longs 0 0) (voice_words_in p st.words) (voice_longs_in p st.longs) in
    part_put_same reply 0 (reply_of p expected input (get_or st.longs 0 0) (voice_words_in p st.words) (voice_longs_in p st.longs)) (omega (arith, long))
    (reply_length p expected) long

reply_same : (p : Params) (expected : ℕ) (input : List ℕ) {P : ℕ → Type 0} {q : Params} {a b : State} → Alike q P a b
    → update_reply p expected input a ≡ update_reply p expected input b
unfolding update_reply
reply_same p expected input e =
    λ i. reply_of p expected input (get_or (e.longs i) 0 0) (voice_words_in p (e.words i)) (voice_longs_in p (e.longs i))

module _ {P : ℕ → Type 0} {a b : State} (wa : Whole a) (wb : Whole b) (e : Alike (params_in a) P a b) (expected : ℕ) (input : List ℕ) where
  same : params_in a ≡ params_in b
  same = params_same e

  both_after : Both (params_in a) P (updated (params_in a) input a) (updated (params_in b) input b)
  both_after = record {
    left = update_whole a wa input;
    right = update_whole b wb input;
    params = update_params a wa input;
    alike = subst (λ (q : Params). Alike (params_in a) P (updated (params_in a) input a) (updated q input b)) same
        (updated_alike P (params_in a) input wa.sized (subst (λ (q : Params). Sized q b) (sym same) wb.sized) e);
  }

  module _ (reply reply' : List ℕ) (long : length reply ≡ length reply') where
    by_room : (t : Bool) → leb (reply_length (params_in a) expected) (length reply) ≡ t
        → UpdatesAlike (params_in a) P (room_by t a expected input reply) (room_by t b expected input reply')
    unfolding room_by update_done
    by_room true h =
        let p = params_in a in
        let room : reply_length p expected ≤ length reply = leb-true _ _ h in
        let size_is = ap (λ (q : Params). reply_length q expected) same in
        let room' : reply_length (params_in b) expected ≤ length reply' = rw (← same, ← long) room in
        record {
          number = refl;
          size = size_is;
          reply = reply_front p expected input (updated p input a) reply room
              ∙ reply_same p expected input both_after.alike
              ∙ ap (λ (q : Params). update_reply q expected input (updated (params_in b) input b)) same
              ∙ sym (reply_front (params_in b) expected input (updated (params_in b) input b) reply' room');
          both = both_after;
        }
    by_room false h = record { number = refl; size = refl; reply = refl; both = record { left = wa; right = wb; params = refl; alike = e } }

    pub update_step_lem : UpdatesAlike (params_in a) P (update_call a expected input reply) (update_call b expected input reply')
    update_step_lem =
        let t = leb (reply_length (params_in a) expected) (length reply) in
        let room_same : room_by t b expected input reply' ≡ room_by (leb (reply_length (params_in b) expected) (length reply')) b expected input reply' =
        λ i. room_by (leb (reply_length (same i) expected) (long i)) b expected input reply' in
        subst (λ (o : UpdateOutcome). UpdatesAlike (params_in a) P o (update_call b expected input reply')) (sym (update_is a wa expected input reply))
        (subst (UpdatesAlike (params_in a) P (room_by t a expected input reply)) (room_same ∙ sym (update_is b wb expected input reply')) (by_room t refl))
