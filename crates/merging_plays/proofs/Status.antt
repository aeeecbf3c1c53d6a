-- The 16 bytes that a reply has for a voice follow from that voice alone. Assumes nothing.
use mathlib.Core.Path.{◌≡◌, ap, sym, ◌∙◌}
use mathlib.Core.Bool.{cond, not, ◌&&◌, not-not}
use mathlib.Core.List.{List}
use Prim.Native.Nat.{ℕ, ◌+◌, ◌*◌, ◌<◌}
use native.Mathlib.Nat.{add-zero}
use native.Mathlib.Omega.{arith}
use lib.Dec.{eqb}
use lib.ListN.{get_or}
use Rattle.rows.specs.Rows.{part}
use Rattle.params.specs.declared.params.Params.{Params}
use Rattle.state.specs.State.{State, voice_words_in, voice_longs_in}
use Rattle.sound_rows.specs.Spelled.{part_at}
use Rattle.voice_rows.specs.VoiceRow.{voice_of}
use Rattle.reply_sections.specs.Bytes.{zeros}
use Rattle.reply_sections.specs.Voices.{heard_of, status_of, status_at}
use Rattle.reply.specs.Reply.{status_in}
use Rattle.updates.specs.Update.{update_reply}
use Rattle.state_voices.specs.StateVoices.{voice_on, voice_in}
use Rattle.secrecy.proofs.Status.{reply_status}
use Rattle.merging_plays.specs.VoiceStatus.{voice_status}

-- an element of the first v of a row of w among rows that begin at `from`
row_at : (all from : ℕ) (s : List ℕ) (w v k j : ℕ) → k * w + j < all → j < w → j < v
    → get_or (part all from s) (k * w + j) 0 ≡ get_or (part v 0 (part w (from + k * w) s)) j 0
row_at all from s w v k j inside wide first =
    let e : from + (k * w + j) ≡ from + k * w + (0 + j) = omega arith in
    part_at all from s (k * w + j) 0 inside
    ∙ ap (λ (i : ℕ). get_or s i 0) e
    ∙ sym (part_at w (from + k * w) s (0 + j) 0 (omega arith))
    ∙ sym (part_at v 0 (part w (from + k * w) s) j 0 first)

module _ (p : Params) (st : State) (k : ℕ) (h : k < p.voices) where
  -- the first words and longs of voice k
  abbrev head : List ℕ
  head = part 26 0 (part 58 (10 + k * 58) st.words)

  abbrev top : List ℕ
  top = part 2 0 (part 14 (1 + k * 14) st.longs)

  word : (j : ℕ) → j < 26 → get_or (voice_words_in p st.words) (k * 58 + j) 0 ≡ get_or head j 0
  word j l = row_at (p.voices * 58) 10 st.words 58 26 k j (omega arith) (omega arith) l

  long : get_or (voice_longs_in p st.longs) (k * 14 + 1) 0 ≡ get_or top 1 0
  long = row_at (p.voices * 14) 1 st.longs 14 2 k 1 (omega arith) (omega arith) (omega arith)

  pub status_voice : status_at (voice_words_in p st.words) (voice_longs_in p st.longs) k ≡ voice_status (voice_in k st)
  unfolding status_at status_of voice_status voice_on voice_of
  status_voice =
      let words = voice_words_in p st.words in
      let used : get_or words (k * 58) 0 ≡ get_or head 0 0 = rw add-zero at (word 0 (omega arith)) in
      let fresh : eqb (get_or words (k * 58 + 1) 0) 0 ≡ not (not (eqb (get_or head 1 0) 0)) =
      ap (λ (x : ℕ). eqb x 0) (word 1 (omega arith)) ∙ sym (not-not _) in
      λ i. cond (not (eqb (used i) 0) && fresh i) (heard_of (long i) (word 23 (omega arith) i)) (zeros 16)

  -- in the reply of any update that leaves this state
  pub reply_voice : (expected : ℕ) (input : List ℕ) → status_in p k (update_reply p expected input st) ≡ voice_status (voice_in k st)
  unfolding update_reply
  reply_voice expected input = reply_status p expected input _ _ _ k h ∙ status_voice
