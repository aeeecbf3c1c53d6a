-- The channels of a voice, one after the other: what is kept and what is heard after each. Assumes nothing.
use Prim.Native.Nat.{ℕ, zero, suc, ◌+◌, ◌*◌, ◌≤◌, ◌<◌}
use Rattle.std.proofs.Common.{arith, add-one, sym, ◌∙◌, ne_eqb}
use Rattle.std.specs.Prelude.{cond, List, ◌≡◌, eqb, ℤ, Float, length}
use Rattle.std.proofs.Math.Path.{refl, ap}
use Rattle.rows.specs.Rows.{put}
use Rattle.rows.specs.Folds.{up_to, up_to_more, row_end}
use Rattle.adpcm.specs.declared.context.AdpcmContext.{AdpcmContext}
use Rattle.resample.specs.Defs.{resampled}
use Rattle.voice.specs.declared.sound.History.{History}
use Rattle.voice.specs.declared.sound.Sound.{Sound}
use Rattle.plan.specs.Source.{Source}
use Rattle.voice.specs.declared.queue.Queue.{Queue}
use Rattle.plan.specs.Rounds.{has_table, plan_of}
use Rattle.plan.specs.Fits.{plan_table}
use Rattle.sound.specs.Sound.{table_of, perform_all, row_of}
use Rattle.sound.specs.Perform.{fresh}
use Rattle.sound.specs.Channel.{Ready, Fetched}
use Rattle.playing.specs.Playing.{Material, deck_of, three_of, channel_row, channel_out, out_step, tail_of, history_step, sound_step, played_out, played_history, played_sound}

-- a row of another content is as ready
pub ready_same : {q : Queue} {s : Source} {m : List ℕ} {row other : List Float} → length other ≡ length row
    → Ready q s m row → Ready q s m other
ready_same e r = record {
  history = rw e r.history;
  long = rw e r.long;
  index = r.index;
  some = r.some;
  channels = r.channels;
  memory = r.memory;
}

-- the coefficients of a fetch
pub table_made : (q : Queue) (s : Source) (m : List ℕ) (needed : ℕ) {table : List ℤ} → table ≡ table_of (has_table s) s m
    → table ≡ table_of (plan_of q s needed).table s m
table_made q s m needed e = e ∙ (λ i. table_of (sym (plan_table q s needed) i) s m)

-- ---- one channel

module _ (w : Material) (c : ℕ) {table : List ℤ} {three row : List Float} {made : AdpcmContext} (ht : table ≡ table_of w.plan.table w.source w.memory)
    (h₃ : three ≡ three_of c w.sound.history.samples)
    (f : Fetched three w.needed w.plan.done (perform_all w.source w.memory table c w.plan.acts (fresh w.sound.adpcm)) row made) where
  row_is : row ≡ channel_row w c
  unfolding channel_row deck_of
  row_is = f.row ∙ (λ i. row_of (h₃ i) w.needed w.plan.done (perform_all w.source w.memory (ht i) c w.plan.acts (fresh w.sound.adpcm)))

  made_is : made ≡ (deck_of w c).adpcm
  unfolding deck_of
  made_is = f.context ∙ (λ i. (perform_all w.source w.memory (ht i) c w.plan.acts (fresh w.sound.adpcm)).adpcm)

  -- the tail and the context
  pub kept_made : (kept : Sound) {n : ℕ} {h : History} {x : AdpcmContext} → n ≡ w.needed → h.samples ≡ put kept.history.samples (c * 3) (tail_of n row)
      → x ≡ cond (eqb c 0) made kept.adpcm → record { adpcm = x; history = h } ≡ sound_step w c kept
  kept_made kept hn hh hx =
      let h' = hh ∙ (λ i. put kept.history.samples (c * 3) (tail_of (hn i) (row_is i))) in
      let x' = hx ∙ (λ i. cond (eqb c 0) (made_is i) kept.adpcm) in
      λ i. record { adpcm = x' i; history = record { samples = h' i } }

  -- what is heard
  pub heard_made : (before : List Float) {after : List Float} → after ≡ put before (c * w.count) (resampled row w.ratio w.fraction w.count) → after ≡ out_step w c before
  unfolding channel_out
  heard_made before e = e ∙ (λ i. put before (c * w.count) (resampled (row_is i) w.ratio w.fraction w.count))

-- ---- after k channels

-- the context: as it was, then channel 0's
abbrev context_up_to : Material → ℕ → AdpcmContext
context_up_to w zero = w.sound.adpcm
context_up_to w (suc k) = (deck_of w 0).adpcm

context_more : (w : Material) (k : ℕ) → cond (eqb k 0) (deck_of w k).adpcm (context_up_to w k) ≡ context_up_to w (suc k)
context_more w zero = refl
context_more w (suc k) = rw (ne_eqb (suc k) 0 (λ z. omega arith))

pub record Sounding (w : Material) (src₀ out₀ src out : List Float) (kept : Sound) (k : ℕ) : Type 0 where
  pub below : k ≤ w.source.channels
  pub context : kept.adpcm ≡ context_up_to w k
  pub history : kept.history.samples ≡ up_to (history_step w) k w.sound.history.samples
  pub heard : out ≡ up_to (out_step w) k out₀
  pub row : length src ≡ length src₀
  pub size : length out ≡ length out₀

pub sounding_none : (w : Material) (src out : List Float) → Sounding w src out src out w.sound 0
unfolding up_to
sounding_none w src out = record { below = omega arith; context = refl; history = refl; heard = refl; row = refl; size = refl }

module _ {w : Material} {src₀ out₀ src out : List Float} {kept : Sound} {k : ℕ} (p : Sounding w src₀ out₀ src out kept k) where
  -- row k of the outputs is inside
  pub sounding_room : k < w.source.channels → w.source.channels * w.count ≤ length out₀ → k * w.count + w.count ≤ length out
  sounding_room h l = omega (arith, row_end 0 w.count k w.source.channels h, p.size)

  pub sounding_more : {w' : Material} {src' out' : List Float} {kept' : Sound} → k < w.source.channels → w' ≡ w → kept' ≡ sound_step w' k kept → out' ≡ out_step w' k out
      → length src' ≡ length src → length out' ≡ length out → Sounding w src₀ out₀ src' out' kept' (k + 1)
  sounding_more h e hk ho ls lo =
      let s = hk ∙ (λ i. sound_step (e i) k kept) in
      record {
        below = omega arith;
        context = (λ i. (s i).adpcm) ∙ (λ i. cond (eqb k 0) (deck_of w k).adpcm (p.context i)) ∙ context_more w k ∙ ap (context_up_to w) (sym (add-one k));
        history = (λ i. (s i).history.samples) ∙ ap (history_step w k) p.history ∙ up_to_more (history_step w) k w.sound.history.samples;
        heard = ho ∙ (λ i. out_step (e i) k (p.heard i)) ∙ up_to_more (out_step w) k out₀;
        row = ls ∙ p.row;
        size = lo ∙ p.size;
      }

  module _ (h : w.source.channels ≤ k) where
    all_done : k ≡ w.source.channels
    all_done = omega (arith, p.below)

    pub sounding_heard : out ≡ played_out w out₀
    unfolding played_out
    sounding_heard = p.heard ∙ ap (λ (n : ℕ). up_to (out_step w) n out₀) all_done

    pub sounding_kept : 0 < w.source.channels → kept ≡ played_sound w
    unfolding played_sound played_history
    sounding_kept l =
        let x = p.context ∙ last k (omega arith) in
        let t = p.history ∙ ap (λ (n : ℕ). up_to (history_step w) n w.sound.history.samples) all_done in
        λ i. record { adpcm = x i; history = record { samples = t i } }
      where
        last : (n : ℕ) → 0 < n → context_up_to w n ≡ (deck_of w 0).adpcm
        last zero z = absurd (omega arith)
        last (suc n) z = refl
