-- Two sample memories that give the same bytes to a voice's reads make the same sound of the voice. Assumes nothing.
use Rattle.std.specs.Prelude.{◌≡◌, Bool, ℕ, ◌*◌, ℤ, Float, Option, Some, None}
use Rattle.std.proofs.Math.Path.{refl, ap}
use Rattle.std.proofs.Common.{◌∙◌}
use Rattle.std.proofs.Math.Bool.{true, false, cond}
use mathlib.Core.List.Memᴰ
use mathlib.Core.List.{List, [], ◌∷◌, ◌++◌}
use Rattle.rows.specs.Rows.{put}
use Rattle.rows.specs.Folds.{up_to}
use Rattle.rows.specs.Tables.{joined}
use Rattle.adpcm.specs.Context.{context_of, coefficients_of}
use Rattle.adpcm.specs.declared.context.AdpcmContext.{AdpcmContext}
use Rattle.resample.specs.Defs.{resampled}
use Rattle.voice.specs.declared.Voice.{Voice}
use Rattle.voice.specs.declared.sound.Sound.{Sound}
use Rattle.plan.specs.Source.{Source}
use Rattle.plan.specs.declared.Act.{Act}
use Rattle.plan.specs.declared.Decode.{Decode}
use Rattle.plan.specs.declared.Decode.TheVariants.{Nothing, Pcm, Adpcm, Silence}
use Rattle.sound.specs.Sound.{Deck, table_of, pcm_of, decode_adpcm, decode_on, renewed_context, perform, perform_all, row_of}
use Rattle.sound.specs.Perform.{fresh}
use Rattle.turn.specs.Render.{Render}
use Rattle.playing.specs.Playing.{Material, deck_of, three_of, channel_row, channel_out, tail_of, played_history, played_sound}
use Rattle.hearing.specs.Hearing.{heard_out}
use Rattle.voice_turn.specs.Played.{material_of}
use Rattle.alike.specs.Reads.{Span, span, context_reads, decode_reads, act_reads, acts_reads, plan_reads, ready_reads}
use Rattle.alike.specs.Alike.{SameReads}

-- ---- one channel

-- from source s, with two memories; `Same reads`: they give the same bytes to each of these
module _ (s : Source) (m m' : List ℕ) where
  abbrev Same : List Span → Type 0
  Same = SameReads s.ranges m m'

  -- two lists of reads, one behind the other
  first : (a b : List Span) → Same (a ++ b) → Same a
  first a b h x i = h x (Memᴰ.append_left b i)

  second : (a b : List Span) → Same (a ++ b) → Same b
  second a b h x i = h x (Memᴰ.append_right a i)

  table_same : (b : Bool) → Same (cond b (span s.data_source 32 ∷ []) []) → table_of b s m ≡ table_of b s m'
  unfolding table_of
  table_same false h = refl
  table_same true h = ap coefficients_of (h (span s.data_source 32) (Memᴰ.head refl))

  module _ (table : List ℤ) (c : ℕ) where
    decode_same : (d : Decode) (k : Deck) → Same (decode_reads s d) → decode_on s m table c d k ≡ decode_on s m' table c d k
    unfolding decode_on decode_reads
    decode_same Nothing k h = refl
    decode_same (Pcm width addr n) k h =
        let e = h (span addr (n * (width * s.channels))) (Memᴰ.head refl) in
        λ i. record { adpcm = k.adpcm; out = k.out ++ pcm_of width s.channels c (e i) n }
    decode_same (Adpcm want addr bytes start) k h = ap (λ (d : List ℕ). decode_adpcm c d start want table k) (h (span addr bytes) (Memᴰ.head refl))
    decode_same (Silence n) k h = refl

    -- the context that an act begins with
    context_same : (at : Option ℕ) (x : AdpcmContext) → Same (context_reads at)
        → renewed_context s.ranges m at x ≡ renewed_context s.ranges m' at x
    unfolding context_reads
    context_same None x h = refl
    context_same (Some at) x h = ap context_of (h (span at 6) (Memᴰ.head refl))

    perform_same : (a : Act) (k : Deck) → Same (act_reads s a) → perform s m table c a k ≡ perform s m' table c a k
    unfolding perform act_reads
    perform_same a k h =
        let e = context_same a.context k.adpcm (first (context_reads a.context) (decode_reads s a.decode) h) in
        ap (λ (x : AdpcmContext). decode_on s m table c a.decode (record { adpcm = x; out = k.out })) e
        ∙ decode_same a.decode _ (second (context_reads a.context) (decode_reads s a.decode) h)

    all_same : (acts : List Act) (k : Deck) → Same (acts_reads s acts) → perform_all s m table c acts k ≡ perform_all s m' table c acts k
    unfolding perform_all acts_reads
    all_same [] k h = refl
    all_same (a ∷ acts) k h =
        ap (perform_all s m table c acts) (perform_same a k (first (act_reads s a) (acts_reads s acts) h))
        ∙ all_same acts (perform s m' table c a k) (second (act_reads s a) (acts_reads s acts) h)

-- ---- all channels

-- the same from another memory
abbrev pub with_memory : List ℕ → Material → Material
with_memory m w = record {
  plan = w.plan;
  source = w.source;
  memory = m;
  needed = w.needed;
  sound = w.sound;
  ratio = w.ratio;
  fraction = w.fraction;
  count = w.count;
}

module _ (w : Material) (m' : List ℕ) (h : SameReads w.source.ranges w.memory m' (plan_reads w.source w.plan)) where
  pub deck_same : (c : ℕ) → deck_of w c ≡ deck_of (with_memory m' w) c
  unfolding deck_of plan_reads
  deck_same c =
      let s = w.source in
      let m = w.memory in
      let acts = w.plan.acts in
      let tabled = cond w.plan.table (span s.data_source 32 ∷ []) [] in
      let x = fresh w.sound.adpcm in
      ap (λ (t : List ℤ). perform_all s m t c acts x) (table_same s m m' w.plan.table (first s m m' tabled (acts_reads s acts) h))
      ∙ all_same s m m' (table_of w.plan.table s m') c acts x (second s m m' tabled (acts_reads s acts) h)

  row_same : (c : ℕ) → channel_row w c ≡ channel_row (with_memory m' w) c
  unfolding channel_row
  row_same c = ap (row_of (three_of c w.sound.history.samples) w.needed w.plan.done) (deck_same c)

  out_same : (c : ℕ) → channel_out w c ≡ channel_out (with_memory m' w) c
  unfolding channel_out
  out_same c = ap (λ (row : List Float). resampled row w.ratio w.fraction w.count) (row_same c)

  history_same : played_history w ≡ played_history (with_memory m' w)
  unfolding played_history
  history_same = λ i. up_to (λ c kept. put kept (c * 3) (tail_of w.needed (row_same c i))) w.source.channels w.sound.history.samples

  pub played_same : played_sound w ≡ played_sound (with_memory m' w)
  unfolding played_sound
  played_same = λ i. record { adpcm = (deck_same 0 i).adpcm; history = record { samples = history_same i } }

  pub heard_same : heard_out w ≡ heard_out (with_memory m' w)
  unfolding heard_out
  heard_same = λ i. joined w.source.channels (λ c. out_same c i)

-- ---- the turn of a voice that is ready

module _ (r : Render) (m m' : List ℕ) (v : Voice) (s s' : Sound) (e : s ≡ s') (h : SameReads r.ranges m m' (ready_reads true r v)) where
  pub played_turn_same : played_sound (material_of r m v s) ≡ played_sound (material_of r m' v s')
  unfolding material_of ready_reads
  played_turn_same = played_same (material_of r m v s) m' h ∙ ap (λ (x : Sound). played_sound (material_of r m' v x)) e

  pub heard_turn_same : heard_out (material_of r m v s) ≡ heard_out (material_of r m' v s')
  unfolding material_of ready_reads
  heard_turn_same = heard_same (material_of r m v s) m' h ∙ ap (λ (x : Sound). heard_out (material_of r m' v x)) e
