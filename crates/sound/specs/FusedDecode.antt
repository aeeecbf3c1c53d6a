-- The Rust's decode is the plan of the decode, and then the sound of every channel. Assumes nothing.
use Prim.Native.Nat.{ℕ, zero, suc, ◌+◌, ◌-◌, ◌*◌, ◌/◌, ◌%◌, ◌^◌, min}
use Rattle.std.specs.Prelude.{Bool, true, false, ◌||◌, ◌≡◌, leb, eqb, Float, ℤ, Option, Some, None}
use Rattle.std.proofs.Math.Bool.{cond}
use mathlib.Core.List.{List, [], ◌∷◌, ◌++◌, append-nil}
use Rattle.std.proofs.Math.Path.{refl, ap, sym}
use Rattle.std.proofs.Common.{◌∙◌}
use Rattle.std.proofs.Math.ListN.{length, replicate}
use Rattle.ranges.specs.Ranges.{readable_of}
use Rattle.memory.specs.Memory.{read_of}
use Rattle.memory.proofs.Bytes.{length_read}
use Rattle.adpcm.specs.Places.{nibble_of, size_of}
use Rattle.adpcm.specs.Decode.{run_of}
use Rattle.adpcm.specs.Runs.{count_of, run_count}
use Rattle.adpcm.specs.declared.context.AdpcmContext.{AdpcmContext}
use Rattle.adpcm.specs.declared.places.Sample.{Sample}
use Rattle.floats.specs.Defs.{zero32}
use Rattle.voice.specs.declared.wave.WaveBuffer.{WaveBuffer}
use Rattle.ranges.specs.Ascending.{Ascending}
use Rattle.plan.specs.Source.{Source}
use Rattle.plan.specs.declared.Decode.TheVariants.{Nothing, Adpcm, Silence}
use Rattle.plan.specs.declared.attempt.Attempt.{Attempt}
use Rattle.plan.specs.Attempt.{pcm_plan, adpcm_plan, decode_plan}
use Rattle.sound.specs.Sound.{decode_adpcm, decode_on}
use Rattle.sound.specs.Perform.{fresh}
use Rattle.sound.specs.Fused.{each_row, Decoding, adpcm_row, pcm_fused, adpcm_fused, decode_fused}

-- ---- rows

pub each_same : (f g : ℕ → List Float → List Float) → ((c : ℕ) (r : List Float) → f c r ≡ g c r) → (c : ℕ) (rows : List (List Float)) → each_row f c rows ≡ each_row g c rows
unfolding each_row
each_same f g h c [] = refl
each_same f g h c (r ∷ rows) = λ i. h c r i ∷ each_same f g h (suc c) rows i

pub each_id : (c : ℕ) (rows : List (List Float)) → rows ≡ each_row (λ (k : ℕ) (r : List Float). r) c rows
unfolding each_row
each_id c [] = refl
each_id c (r ∷ rows) = ap (λ (l : List (List Float)). r ∷ l) (each_id (suc c) rows)

pub each_each : (f g : ℕ → List Float → List Float) (c : ℕ) (rows : List (List Float)) → each_row f c (each_row g c rows) ≡ each_row (λ (k : ℕ) (r : List Float). f k (g k r)) c rows
unfolding each_row
each_each f g c [] = refl
each_each f g c (r ∷ rows) = ap (λ (l : List (List Float)). f c (g c r) ∷ l) (each_each f g (suc c) rows)

-- ---- a decode

by_cond : {A B : Type 0} (g : A → B) (b : Bool) {x y : B} {u v : A} → (b ≡ true → x ≡ g u) → (b ≡ false → y ≡ g v) → cond b x y ≡ g (cond b u v)
by_cond g true p q = p refl
by_cond g false p q = q refl

-- two formats of one family
split : {A : Type 0} (f : ℕ → A) (p q : Bool) (z : A) → cond (p || q) (f (cond p 2 4)) z ≡ cond p (f 2) (cond q (f 4) z)
split f true q z = refl
split f false true z = refl
split f false false z = refl

module _ (s : Source) (m : List ℕ) (table : List ℤ) (laid : Ascending (length m) 0 s.ranges) (rows : List (List Float)) (y : ℕ → AdpcmContext) where
  -- what the Rust's decode leaves, by what is read
  abbrev pub made : Attempt → Decoding
  made a = record {
    got = a.got;
    adpcm = (decode_on s m table 0 a.decode (fresh (y 0))).adpcm;
    rows = each_row (λ (c : ℕ) (r : List Float). r ++ (decode_on s m table c a.decode (fresh (y c))).out) 0 rows;
  }

  none_made : (g : Option ℕ) → record { got = g; adpcm = y 0; rows = rows } ≡ made (record { got = g; decode = Nothing })
  unfolding decode_on
  none_made g = λ i. record { got = g; adpcm = y 0; rows = (each_id 0 rows ∙ each_same _ _ (λ c r. sym (append-nil r)) 0 rows) i }

  pcm_same : (width : ℕ) (w : WaveBuffer) (start : Sample) (want : ℕ) → pcm_fused width s m w start.0 want (y 0) rows ≡ made (pcm_plan width s w start want)
  unfolding pcm_fused pcm_plan decode_on
  pcm_same width w start want =
      let frame = width * s.channels in
      let n = min want (w.size / frame - start.0) in
      let addr = (w.addr + start.0 * frame) % 2 ^ 64 in
      by_cond made (eqb n 0) (λ e. none_made None)
      (λ e. by_cond made (readable_of s.ranges addr (n * frame)) (λ r. refl) (λ r. none_made None))

  -- a row of an ADPCM read
  row_same : (addr bytes : ℕ) (start : Sample) (want c : ℕ) (r : List Float)
      → adpcm_row (run_of (read_of s.ranges m addr bytes) start.0 want table (y 0)).samples c r ≡ r ++ (decode_on s m table c (Adpcm want addr bytes start) (fresh (y c))).out
  unfolding decode_on decode_adpcm
  row_same addr bytes start want zero r = refl
  row_same addr bytes start want (suc c) r =
      ap (λ (n : ℕ). r ++ replicate n zero32) (run_count (read_of s.ranges m addr bytes) start.0 want table (y 0))

  -- the samples that a read decodes to, as the plan counts them
  adpcm_made : (addr bytes : ℕ) (start : Sample) (want : ℕ) → readable_of s.ranges addr bytes ≡ true
      → (let run = run_of (read_of s.ranges m addr bytes) start.0 want table (y 0) in
      let n = length run.samples in
      record { got = cond (eqb n 0) None (Some n); adpcm = run.context; rows = each_row (adpcm_row run.samples) 0 rows })
      ≡ made (record { got = cond (eqb (count_of bytes start.0 want) 0) None (Some (count_of bytes start.0 want)); decode = Adpcm want addr bytes start })
  unfolding decode_on decode_adpcm
  adpcm_made addr bytes start want h =
      let run = run_of (read_of s.ranges m addr bytes) start.0 want table (y 0) in
      let e : length run.samples ≡ count_of bytes start.0 want =
      run_count (read_of s.ranges m addr bytes) start.0 want table (y 0) ∙ ap (λ (n : ℕ). count_of n start.0 want) (length_read m s.ranges addr bytes laid h) in
      λ i. record {
        got = cond (eqb (e i) 0) None (Some (e i));
        adpcm = run.context;
        rows = each_same (adpcm_row run.samples) (λ (c : ℕ) (r : List Float). r ++ (decode_on s m table c (Adpcm want addr bytes start) (fresh (y c))).out) (row_same addr bytes start want) 0 rows i;
      }

  adpcm_same : (w : WaveBuffer) (start : Sample) (want : ℕ) → adpcm_fused s m table w start.0 want (y 0) rows ≡ made (adpcm_plan s w start want)
  unfolding adpcm_fused adpcm_plan
  adpcm_same w start want =
      let first = nibble_of start.0 / 2 in
      let last = min (size_of (start.0 + want)) w.size in
      let addr = (w.addr + first) % 2 ^ 64 in
      by_cond made (leb last first) (λ e. none_made None)
      (λ e.
      by_cond made (readable_of s.ranges addr (last - first)) (λ r. adpcm_made addr (last - first) start want r) (λ r. none_made None))

  silence_made : (n : ℕ) → record { got = Some n; adpcm = y 0; rows = each_row (λ (c : ℕ) (r : List Float). r ++ replicate n zero32) 0 rows }
      ≡ made (record { got = Some n; decode = Silence n })
  unfolding decode_on
  silence_made n = refl

  pub decode_same : (w : WaveBuffer) (start : Sample) (want : ℕ) → decode_fused s m table w start.0 want (y 0) rows ≡ made (decode_plan s w start want)
  unfolding decode_fused decode_plan
  decode_same w start want =
      by_cond made (eqb want 0) (λ e. none_made (Some 0))
      (λ e. split (λ (width : ℕ). pcm_fused width s m w start.0 want (y 0) rows) (eqb s.format 2) (eqb s.format 5) _
      ∙ by_cond made (eqb s.format 2) (λ f. pcm_same 2 w start want)
      (λ f. by_cond made (eqb s.format 5) (λ g. pcm_same 4 w start want)
      (λ g. by_cond made (eqb s.format 6) (λ h. adpcm_same w start want) (λ h. silence_made want))))
