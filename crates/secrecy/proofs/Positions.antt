-- An update whose input has no byte asks for the positions: it leaves the state alone, tells each voice's position as the state has it, and
-- routes and declares nothing; two sessions that differ in sound hear the same answer. Assumes nothing.
use mathlib.Core.Path.{◌≡◌, refl, ap, ◌∙◌}
use mathlib.Core.Bool.{Bool, true, false, cond, ◌&&◌}
use mathlib.Core.List.{List, [], map}
use Prim.Native.Nat.{ℕ, zero, suc, ◌+◌, ◌<◌}
use native.Mathlib.Omega.{arith}
use borrow.Author.Tests.{leb-true}
use lib.Dec.{leb}
use lib.ListN.{length, take, drop}
use Rattle.fields.specs.Fields.{field_at, flag_at, section_of}
use Rattle.params.specs.declared.params.Params.{Params}
use Rattle.params.specs.Sizes.{revision_of, reply_length}
use Rattle.state.specs.State.{State, params_in, voice_words_in, voice_longs_in}
use Rattle.whole.specs.Whole.{whole_of}
use Rattle.voice.specs.Voice.{has_destination}
use Rattle.voice_records.specs.Record.{record_used, splitter_of}
use Rattle.voices.specs.Voices.{record_at, voice_record}
use Rattle.reply_sections.specs.Voices.{status_at}
use Rattle.reply.specs.Reply.{status_in}
use Rattle.updates.specs.Update.{updated, update_reply}
use Rattle.update_alike.specs.Routes.{routes}
use Rattle.calls.specs.Calls.{UpdateOutcome, open_call, update_left, update_done, update_call}
use Rattle.secrecy.specs.Sessions.{Call, update, shape, updates, after, said, state_at}
use Rattle.secrecy.specs.Declared.{record_spans, input_spans}
use Rattle.secrecy.specs.Demand.{begun}
use Rattle.secrecy.specs.Updates.{reply_front}
use Rattle.secrecy.proofs.Lists.{None, unasked, both_at}
use Rattle.secrecy.specs.Opens.{begun_both}
use Rattle.secrecy.proofs.Status.{reply_status}

-- such an update
abbrev pub empty_update : ℕ → List ℕ → Call
empty_update expected reply = update expected [] reply

module _ (st : State) (expected : ℕ) (reply : List ℕ) where
  -- by the answers to questions 4 and 6
  outcome_by : Bool → Bool → UpdateOutcome
  outcome_by whole room = cond whole (cond room (update_done st expected [] reply) (update_left 6 0 st reply)) (update_left 4 0 st reply)

  -- ---- it leaves the state alone, whether or not it is refused

  nothing_by : (whole room : Bool) → (outcome_by whole room).state ≡ st
  unfolding outcome_by update_done updated
  nothing_by true true = refl
  nothing_by true false = refl
  nothing_by false room = refl

  pub asks_nothing : after st (empty_update expected reply) ≡ st
  unfolding update_call outcome_by
  asks_nothing = nothing_by (whole_of st) (leb (reply_length (params_in st) expected) (length reply))

  -- ---- where it isn't refused, it is told the reply of the state as it stands

  told_by_lem : (whole room : Bool) → leb (reply_length (params_in st) expected) (length reply) ≡ room → (outcome_by whole room).number ≡ 0
      → take (outcome_by whole room).size (outcome_by whole room).reply ≡ update_reply (params_in st) expected [] st
  unfolding outcome_by update_done updated
  told_by_lem true true h e = reply_front (params_in st) expected [] st reply (leb-true _ _ h)
  told_by_lem true false h e = absurd (omega arith)
  told_by_lem false room h e = absurd (omega arith)

  pub reply_told : (said st (empty_update expected reply)).number ≡ 0
      → (said st (empty_update expected reply)).reply ≡ update_reply (params_in st) expected [] st
  unfolding update_call outcome_by
  reply_told e = told_by_lem (whole_of st) (leb (reply_length (params_in st) expected) (length reply)) refl e

  -- voice k's 16 bytes of it
  module _ (k : ℕ) (inside : k < (params_in st).voices) where
    abbrev status : List ℕ
    status = status_at (voice_words_in (params_in st) st.words) (voice_longs_in (params_in st) st.longs) k

    pub positions_told : (said st (empty_update expected reply)).number ≡ 0
        → status_in (params_in st) k (said st (empty_update expected reply)).reply ≡ status
    unfolding update_reply
    positions_told e = ap (status_in (params_in st) k) (reply_told e) ∙ reply_status (params_in st) expected [] _ _ _ k inside

-- ---- it has no record, so that it routes no voice and declares no byte

taken_of_none : (at n : ℕ) → take {A = ℕ} n (drop at []) ≡ []
taken_of_none zero zero = refl
taken_of_none zero (suc n) = refl
taken_of_none (suc at) zero = refl
taken_of_none (suc at) (suc n) = refl

section_by_lem : (b : Bool) (at n : ℕ) → cond b (take {A = ℕ} n (drop at [])) [] ≡ []
section_by_lem true at n = taken_of_none at n
section_by_lem false at n = refl

pub section_none : (at n : ℕ) → section_of [] at n ≡ []
unfolding section_of
section_none at n = section_by_lem (leb (at + n) 0) at n

pub none_recorded : (k : ℕ) → voice_record [] k ≡ []
none_recorded k = ap (λ (d : List ℕ). record_at d k) (section_none _ _) ∙ section_none _ _

pub routes_none : (p : Params) (k : ℕ) → routes p [] k ≡ false
unfolding routes flag_at field_at
routes_none p k =
    ap (λ (e : List ℕ). record_used e && has_destination (field_at 4 e 0x58) (splitter_of (revision_of p) e)) (none_recorded k)

pub declares_none : (k : ℕ) → input_spans [] k ≡ []
unfolding input_spans flag_at field_at
declares_none k = ap (λ (e : List ℕ). cond (record_used e) (record_spans e) []) (none_recorded k)

-- ---- asked at any place of two sessions as in demand 3, it is answered alike, whatever their memories hold

module _ (p : Params) (a b : State) (oa : (open_call p a).number ≡ 0) (ob : (open_call p b).number ≡ 0)
    (cs cs' : List Call) (e : map shape cs ≡ map shape cs') where
  pub positions_same : (r expected : ℕ) (reply reply' : List ℕ) → length reply ≡ length reply'
      → said (state_at (begun p a) cs r) (empty_update expected reply) ≡ said (state_at (begun p b) cs' r) (empty_update expected reply')
  positions_same r expected reply reply' l =
      let both = both_at (begun_both p None a b oa ob) cs cs' e r in
      (unasked both (empty_update expected reply) (empty_update expected reply') (λ i. updates expected [] (l i))).same
