-- What one act writes into a row, and where. Assumes nothing.
use Rattle.std.specs.Prelude.{ℕ, zero, suc, ◌+◌, ◌*◌, ◌≤◌, Bool, true, false, ◌||◌, ◌≡◌, Float, ℤ, length, take, drop, replicate, eqb}
use mathlib.Core.List.{List, [], ◌++◌, append-nil}
use Rattle.std.proofs.Math.Path.{refl}
use Rattle.std.proofs.Common.{ap, sym, ◌∙◌, drop-drop, arith, eqb-true, ne_eqb}
use Rattle.std.specs.Float.{binary32}
use Rattle.std.specs.Float.Ieee.{of_int}
use Rattle.std.proofs.lemmas.List.{length-map, length-replicate}
use Rattle.std.proofs.lemmas.Bool.{eqb-false}
use Rattle.memory.specs.Memory.{read_of}
use Rattle.memory.proofs.Bytes.{length_read}
use Rattle.adpcm.specs.Decode.{run_of, floated, Decodes}
use Rattle.adpcm.specs.Runs.{count_of, run_count}
use Rattle.floats.specs.Defs.{zero32}
use Rattle.adpcm.specs.declared.context.AdpcmContext.{AdpcmContext}
use Rattle.adpcm.specs.declared.places.Sample.{Sample}
use Rattle.ranges.specs.Ascending.{Ascending}
use Rattle.plan.specs.Source.{Source}
use Rattle.plan.specs.declared.Act.{Act}
use Rattle.plan.specs.declared.Decode.{Decode}
use Rattle.plan.specs.declared.Decode.TheVariants.{Nothing, Pcm, Adpcm, Silence}
use Rattle.plan.specs.Fits.{want_of, made_of, reads_of, formed_of}
use Rattle.sound.specs.Fill.{length_tab}
use Rattle.sound.specs.Sound.{pcm_of, Deck, decode_adpcm, decode_on, renewed_context, perform}

-- a channel that has no samples yet
abbrev pub fresh : AdpcmContext → Deck
fresh x = record { adpcm = x; out = [] }

-- the most samples that a round makes: a fetch's
abbrev pub most_samples : ℕ
most_samples = 4097

-- what a decode asks: room for its samples, which are few, and that its read succeeds
pub record Room (s : Source) (m : List ℕ) (d : Decode) (out : List Float) : Type 0 where
  pub memory : Ascending (length m) 0 s.ranges
  pub channels : s.channels ≤ 6
  pub want : want_of d ≤ length out
  pub few : want_of d ≤ most_samples
  pub reads : reads_of s d ≡ true
  pub formed : formed_of d ≡ true

-- the same from a place of a row on
pub record RoomAt (s : Source) (m : List ℕ) (d : Decode) (at : ℕ) (row : List Float) : Type 0 where
  pub memory : Ascending (length m) 0 s.ranges
  pub channels : s.channels ≤ 6
  pub want : at + want_of d ≤ length row
  pub few : want_of d ≤ most_samples
  pub reads : reads_of s d ≡ true
  pub formed : formed_of d ≡ true

-- the samples of k stand at the front; the rest stays
pub record Performed (k : Deck) (before after : List Float) (made : ℕ) (x : AdpcmContext) : Type 0 where
  pub count : made ≡ length k.out
  pub context : x ≡ k.adpcm
  pub output : after ≡ k.out ++ drop made before

-- the same from a place on
pub record PerformedAt (at : ℕ) (k : Deck) (before after : List Float) (made : ℕ) (x : AdpcmContext) : Type 0 where
  pub count : made ≡ length k.out
  pub context : x ≡ k.adpcm
  pub output : after ≡ take at before ++ (k.out ++ drop (at + made) before)

-- ---- PCM

pub four_wide : {w : ℕ} → eqb w 2 || eqb w 4 ≡ true → (w ≡ 2 → ⊥) → w ≡ 4
four_wide {w} h n = eqb-true w 4 (rw (ne_eqb w 2 n) at h)

pub wide_le : (w : ℕ) → eqb w 2 || eqb w 4 ≡ true → w ≤ 4
wide_le w h = by_width (eqb w 2) refl where
  by_width : (b : Bool) → eqb w 2 ≡ b → w ≤ 4
  by_width true e = omega (arith, eqb-true w 2 e)
  by_width false e = omega (arith, four_wide h (eqb-false w 2 e))

pub length_pcm : (width channels c : ℕ) (d : List ℕ) (n : ℕ) → length (pcm_of width channels c d n) ≡ n
unfolding pcm_of
length_pcm width channels c d n = length_tab n _

-- ---- ADPCM

-- samples at the front, counted
front : (o before after : List Float) {n : ℕ} {x y : AdpcmContext} → length o ≡ n → y ≡ x → after ≡ o ++ drop n before
    → Performed (record { adpcm = x; out = o }) before after n y
front o before after h e f = record { count = sym h; context = e; output = f }

pub adpcm_first : {c : ℕ} {d e : List ℕ} (start : Sample) (want : ℕ) (table : List ℤ) (x : AdpcmContext) {y : AdpcmContext} {before after : List Float} {n : ℕ} → c ≡ 0 → d ≡ e
    → Decodes (run_of d start.0 want table x) before after n y → Performed (decode_adpcm c e start want table (fresh x)) before after n y
unfolding decode_adpcm
adpcm_first {d = d} start want table x {before = before} {after} {n} h g r =
    rw (h, ← g)
    (front (floated (run_of d start.0 want table x).samples) before after (length-map (run_of d start.0 want table x).samples _ ∙ sym r.count) r.context
    (r.output ∙ (λ i. floated (run_of d start.0 want table x).samples ++ drop (sym r.count i) before)))

pub adpcm_others : (c : ℕ) (d : List ℕ) (start : Sample) (want : ℕ) (table : List ℤ) (x : AdpcmContext) {before after : List Float} {bytes n : ℕ} → (c ≡ 0 → ⊥) → length d ≡ bytes
    → n ≡ count_of bytes start.0 want → after ≡ replicate n zero32 ++ drop n before → Performed (decode_adpcm c d start want table (fresh x)) before after n x
unfolding decode_adpcm
adpcm_others zero d start want table x h l e f = absurd (h refl)
adpcm_others (suc c) d start want table x {before} {after} {bytes} {n} h l e f =
    let m : n ≡ count_of (length d) start.0 want = e ∙ (λ i. count_of (sym l i) start.0 want) in
    front (replicate (count_of (length d) start.0 want) zero32) before after (length-replicate _ zero32 ∙ sym m) refl (f ∙ (λ i. replicate (m i) zero32 ++ drop n before))

-- ---- a decode

module _ (s : Source) (m : List ℕ) (table : List ℤ) (c : ℕ) (x : AdpcmContext) {d : Decode} where
  pub on_nothing : (before : List Float) → d ≡ Nothing → Performed (decode_on s m table c d (fresh x)) before before 0 x
  unfolding decode_on
  on_nothing before e = rw e (front [] before before refl refl refl)

  pub on_pcm : (width addr n : ℕ) {before after : List Float} → d ≡ Pcm width addr n
      → after ≡ pcm_of width s.channels c (read_of s.ranges m addr (n * (width * s.channels))) n ++ drop n before
      → Performed (decode_on s m table c d (fresh x)) before after n x
  unfolding decode_on
  on_pcm width addr n {before} {after} e f = rw e (front _ before after (length_pcm width s.channels c _ n) refl f)

  pub on_adpcm : (addr bytes : ℕ) (start : Sample) (want : ℕ) {before after : List Float} {n : ℕ} {y : AdpcmContext} → d ≡ Adpcm want addr bytes start
      → Performed (decode_adpcm c (read_of s.ranges m addr bytes) start want table (fresh x)) before after n y
      → Performed (decode_on s m table c d (fresh x)) before after n y
  unfolding decode_on
  on_adpcm addr bytes start want e p = rw e p

  pub on_silence : (n : ℕ) {before after : List Float} → d ≡ Silence n → after ≡ replicate n zero32 ++ drop n before → Performed (decode_on s m table c d (fresh x)) before after n x
  unfolding decode_on
  on_silence n {before} {after} e f = rw e (front (replicate n zero32) before after (length-replicate n zero32) refl f)

-- the samples of a decode do not depend on those before it
pub decode_after : (s : Source) (m : List ℕ) (table : List ℤ) (c : ℕ) (d : Decode) (x : AdpcmContext) (o : List Float)
    → decode_on s m table c d (record { adpcm = x; out = o })
    ≡ record { adpcm = (decode_on s m table c d (fresh x)).adpcm; out = o ++ (decode_on s m table c d (fresh x)).out }
unfolding decode_on decode_adpcm
decode_after s m table c Nothing x o = λ i. record { adpcm = x; out = sym (append-nil o) i }
decode_after s m table c (Pcm width addr n) x o = refl
decode_after s m table zero (Adpcm want addr bytes start) x o = refl
decode_after s m table (suc c) (Adpcm want addr bytes start) x o = refl
decode_after s m table c (Silence n) x o = refl

-- there are as many as the plan says
pub decode_count : (s : Source) (m : List ℕ) (table : List ℤ) (c : ℕ) (d : Decode) (x : AdpcmContext) → Ascending (length m) 0 s.ranges → reads_of s d ≡ true
    → length (decode_on s m table c d (fresh x)).out ≡ made_of d
unfolding decode_on decode_adpcm
decode_count s m table c Nothing x h r = refl
decode_count s m table c (Pcm width addr n) x h r = length_pcm width s.channels c _ n
decode_count s m table zero (Adpcm want addr bytes start) x h r =
    length-map (run_of (read_of s.ranges m addr bytes) start.0 want table x).samples (of_int binary32) ∙ run_count (read_of s.ranges m addr bytes) start.0 want table x ∙ ap (λ (n : ℕ). count_of n start.0 want) (length_read m s.ranges addr bytes h r)
decode_count s m table (suc c) (Adpcm want addr bytes start) x h r =
    length-replicate _ zero32 ∙ ap (λ (n : ℕ). count_of n start.0 want) (length_read m s.ranges addr bytes h r)
decode_count s m table c (Silence n) x h r = length-replicate n zero32

module _ {s : Source} {m : List ℕ} {d e : Decode} {out : List Float} (h : d ≡ e) (r : Room s m d out) where
  pub room_is : Room s m e out
  room_is = rw h at r

-- ---- an act

pub performed_at : (s : Source) (m : List ℕ) (table : List ℤ) (c : ℕ) (a : Act) (x : AdpcmContext) {y z : AdpcmContext} (at : ℕ) {row part after whole : List Float} {n : ℕ}
    → y ≡ renewed_context s.ranges m a.context x → part ≡ drop at row → whole ≡ take at row ++ after
    → Performed (decode_on s m table c a.decode (fresh y)) part after n z → PerformedAt at (perform s m table c a (fresh x)) row whole n z
unfolding perform
performed_at s m table c a x at {row} {part} {after} {whole} {n} e f g p =
    let k : decode_on s m table c a.decode (fresh _) ≡ decode_on s m table c a.decode (fresh _) = λ i. decode_on s m table c a.decode (fresh (e i)) in
    record {
      count = p.count ∙ (λ i. length (k i).out);
      context = p.context ∙ (λ i. (k i).adpcm);
      output = g ∙ ap (λ (l : List Float). take at row ++ l) (p.output ∙ (λ i. (k i).out ++ (ap (drop n) f ∙ drop-drop n at row) i));
    }
