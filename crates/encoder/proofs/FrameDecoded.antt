-- A frame that stands between other bytes decodes to the samples that the encoder predicted. Assumes nothing.
use Prim.Native.Nat.{ℕ, zero, suc, ◌+◌, ◌*◌, ◌-◌, ◌/◌, ◌%◌, ◌≤◌, ◌<◌}
use mathlib.Core.Path.{◌≡◌, refl, sym, ap, ◌∙◌}
use mathlib.Core.Bool.{Bool, true, cond}
use mathlib.Core.List.{List, [], ◌∷◌, ◌++◌}
use native.Mathlib.Nat.{add-zero, zero-add}
use native.Mathlib.Omega.{arith}
use borrow.Author.Tests.{eq-eqb, ne_eqb, lt-leb}
use lib.Dec.{leb, eqb}
use lib.IntN.{ℤ}
use lib.ListN.{length, get_or, length-append, get_or-append}
use lib.Seq.{get_or-append-add}
use Rattle.adpcm.specs.Places.{nibble_of, nibble_at_lem, nibble_parity}
use Rattle.adpcm.specs.Decode.{Took, half_of, after, headed, value_of, took_of, Run, run_on, run_from}
use Rattle.adpcm.specs.declared.context.AdpcmContext.{AdpcmContext}
use Rattle.std.specs.Prelude.{Ok, Err}
use Rattle.nearest.specs.Nearest.{nearest_of}
use Rattle.trial.proofs.Trial.{length_nibbles}
use Rattle.trial.specs.Trial.{frame_samples, pair_first, pair_second, nearest_sample, nibbles_of, reconstructed_of}
use Rattle.encoder.specs.Encode.{packed, context_after, Encoded, frame_with}
use Rattle.encoder.proofs.Packed.{length_packed, Nibbles, nibbles_all, half_is}

-- a choice by a test whose outcome is known
by_test : {c : Bool} (b : Bool) (t u : Took) → b ≡ c → cond b t u ≡ cond c t u
by_test b t u h = ap (λ (d : Bool). cond d t u) h

-- ---- where sample j of frame f stands: the header is byte 8 f, and two samples take a byte of the seven after it

first_at : (f : ℕ) → nibble_of (14 * f + 0) / 2 ≡ 8 * f
first_at f =
    let e : (14 * f + 0) % 14 ≡ 0 = omega arith in
    let a : nibble_of (14 * f + 0) ≡ 16 * ((14 * f + 0) / 14) = (nibble_at_lem (14 * f + 0)).first e in
    omega arith

later_at : (f j : ℕ) → 0 < j → j < 14 → nibble_of (14 * f + j) / 2 ≡ 8 * f + 1 + j / 2
later_at f j h l =
    let m = 14 * f + j in
    let e : (m % 14 ≡ j) × (m / 14 ≡ f) = (omega arith, omega arith) in
    let a : nibble_of m ≡ 16 * (m / 14) + m % 14 + 2 = (nibble_at_lem m).later (omega (arith, e.0)) in
    let b : nibble_of m ≡ 16 * f + j + 2 = a ∙ (λ i. 16 * e.1 i + e.0 i + 2) in
    omega (arith, b)

even_at : (f j : ℕ) → eqb (nibble_of (14 * f + j) % 2) 0 ≡ eqb (j % 2) 0
even_at f j = ap (λ (n : ℕ). eqb n 0) (nibble_parity (14 * f + j) ∙ same f j)
  where
    same : (f j : ℕ) → (14 * f + j) % 2 ≡ j % 2
    same f j = omega arith

-- with the header b, after the context y: the nibbles for the samples ts, and what decoding them leaves
module _ (k : List ℤ) (b : ℕ) where
  abbrev nibbles_with : List ℤ → AdpcmContext → List ℕ
  nibbles_with ts y = nibbles_of (b % 16) (pair_first k b) (pair_second k b) ts y.history0 y.history1

  abbrev samples_with : List ℤ → AdpcmContext → List ℤ
  samples_with ts y = reconstructed_of (b % 16) (pair_first k b) (pair_second k b) ts y.history0 y.history1

  abbrev run_with : List ℤ → AdpcmContext → Run
  run_with ts y =
      let ys = samples_with ts y in record { samples = ys; context = context_after b ys y.history0 y.history1 }

-- ---- frame f, with the header b and the nibbles vs, behind the bytes p and before the bytes rest
module _ (k : List ℤ) (p rest : List ℕ) (f b : ℕ) (vs : List ℕ) (place : length p ≡ 8 * f) (few : length vs ≤ 14) (small : Nibbles vs) where
  abbrev s : List ℕ
  s = p ++ (b ∷ (packed vs ++ rest))

  header : get_or s (8 * f) 0 ≡ b
  header =
      ap (λ (n : ℕ). get_or s n 0) (sym place ∙ sym (add-zero (length p))) ∙ get_or-append-add p (b ∷ (packed vs ++ rest)) 0 0

  -- byte q of the nibbles
  byte : (q : ℕ) → q < length (packed vs) → get_or s (8 * f + 1 + q) 0 ≡ get_or (packed vs) q 0
  byte q h =
      let e : 8 * f + 1 + q ≡ length p + suc q = omega arith in
      ap (λ (n : ℕ). get_or s n 0) e
      ∙ get_or-append-add p (b ∷ (packed vs ++ rest)) (suc q) 0
      ∙ get_or-append (packed vs) rest 0 q h

  long : length s ≡ 8 * f + 1 + length (packed vs) + length rest
  long =
      length-append p (b ∷ (packed vs ++ rest)) ∙ (λ i. place i + suc (length-append (packed vs) rest i)) ∙ omega arith

  byte_in : (j : ℕ) → j < length vs → j / 2 < length (packed vs)
  byte_in j h = omega (arith, length_packed vs)

  -- nibble j, in the high or the low half of its byte
  value : (j : ℕ) → j < length vs → (y : AdpcmContext) (high : Bool) → eqb (j % 2) 0 ≡ high
      → value_of s (8 * f + 1 + j / 2) high k y ≡ Ok (after (get_or vs j 0) k y)
  unfolding value_of
  value j h y high e =
      by_test (leb (length s) (8 * f + 1 + j / 2)) _ _ (lt-leb (length s) (8 * f + 1 + j / 2) (omega (arith, long, byte_in j h)))
      ∙ (λ i. Ok (after (half_of (sym e i) (byte (j / 2) (byte_in j h) i)) k y))
      ∙ ap (λ (v : ℕ). Ok (after v k y)) (half_is vs j small h)

  took_first : 0 < length vs → (y : AdpcmContext) → took_of s 0 k (14 * f + 0) y ≡ Ok (after (get_or vs 0 0) k (headed b y))
  unfolding took_of
  took_first h y =
      let at : nibble_of (14 * f + 0) / 2 - 0 ≡ 8 * f = omega (arith, first_at f) in
      let next : 8 * f + 1 ≡ 8 * f + 1 + 0 / 2 = omega arith in
      by_test (eqb ((14 * f + 0) % 14) 0) _ _ (eq-eqb ((14 * f + 0) % 14) 0 (omega arith))
      ∙ ap (λ (a : ℕ). cond (leb (length s) a) (Err y) (value_of s (a + 1) true k (headed (get_or s a 0) y))) at
      ∙ by_test (leb (length s) (8 * f)) _ _ (lt-leb (length s) (8 * f) (omega (arith, long)))
      ∙ (λ i. value_of s (next i) true k (headed (header i) y))
      ∙ value 0 h (headed b y) true refl

  took_later : (j : ℕ) → 0 < j → j < length vs → (y : AdpcmContext)
      → took_of s 0 k (14 * f + j) y ≡ Ok (after (get_or vs j 0) k y)
  unfolding took_of
  took_later j l h y =
      let at : nibble_of (14 * f + j) / 2 - 0 ≡ 8 * f + 1 + j / 2 = omega (arith, later_at f j l (omega arith)) in
      by_test (eqb ((14 * f + j) % 14) 0) _ _ (ne_eqb ((14 * f + j) % 14) 0 (λ z. omega arith))
      ∙ (λ i. value_of s (at i) (even_at f j i) k y)
      ∙ value j h y (eqb (j % 2) 0) refl

  -- sample j; from the second on, the context has the frame's header
  took : (j : ℕ) → j < length vs → (y : AdpcmContext) → (0 < j → y.pred_scale ≡ b)
      → took_of s 0 k (14 * f + j) y ≡ Ok (after (get_or vs j 0) k (headed b y))
  took zero h y e = took_first h y
  took (suc j) h y e =
      took_later (suc j) (omega arith) h y ∙ (λ i. Ok (after (get_or vs (suc j) 0) k (headed (e (omega arith) i) y)))

  -- the samples ts from sample j of the frame on, where the rest of the nibbles are theirs
  run_part : (ts : List ℤ) (j : ℕ) (y : AdpcmContext) → 0 < length vs → j + length ts ≡ length vs → (0 < j → y.pred_scale ≡ b)
      → ((i : ℕ) → i < length ts → get_or vs (j + i) 0 ≡ get_or (nibbles_with k b ts y) i 0)
      → run_from s 0 k (length ts) (14 * f + j) y ≡ run_with k b ts y
  unfolding run_from nibbles_of reconstructed_of nearest_sample context_after
  run_part [] j y some e head theirs = λ i. record { samples = []; context = headed (head (omega arith) i) y }
  run_part (t ∷ ts) j y some e head theirs =
      let v = nearest_of t (b % 16) (pair_first k b) (pair_second k b) y.history0 y.history1 in
      let z = after v k (headed b y) in
      let own : get_or vs j 0 ≡ v = ap (λ (n : ℕ). get_or vs n 0) (sym (add-zero j)) ∙ theirs 0 (omega arith) in
      let next = run_part ts (j + 1) z some (omega arith) (λ h. refl)
      (λ i h. (let m : j + 1 + i ≡ j + suc i = omega arith in ap (λ (n : ℕ). get_or vs n 0) m ∙ theirs (suc i) (omega arith))) in
      let m : 14 * f + j + 1 ≡ 14 * f + (j + 1) = omega arith in
      let got = took j (omega arith) y head ∙ ap (λ (w : ℕ). Ok (after w k (headed b y))) own in
      (λ i. run_on (got i) (run_from s 0 k (length ts) (m i)))
      ∙ (λ i. record { samples = z.history0 ∷ (next i).samples; context = (next i).context })

-- frame f with the header b, of the samples ts
module _ (k : List ℤ) (p rest : List ℕ) (f b : ℕ) (ts : List ℤ) (x : AdpcmContext)
    (place : length p ≡ 8 * f) (some : 0 < length ts) (few : length ts ≤ frame_samples) where
  abbrev frame : Encoded
  frame = frame_with k ts x.history0 x.history1 b

  pub frame_run : run_from (p ++ (frame.bytes ++ rest)) 0 k (length ts) (14 * f) x
      ≡ record { samples = frame.reconstructed; context = frame.context }
  unfolding frame_with
  frame_run =
      let vs = nibbles_with k b ts x in
      let n : length vs ≡ length ts = length_nibbles (b % 16) (pair_first k b) (pair_second k b) ts x.history0 x.history1 in
      let small = nibbles_all (b % 16) (pair_first k b) (pair_second k b) ts x.history0 x.history1 in
      ap (λ (m : ℕ). run_from (p ++ (b ∷ (packed vs ++ rest))) 0 k (length ts) m x) (sym (add-zero (14 * f)))
      ∙ run_part k p rest f b vs place (omega (arith, n)) small ts 0 x (omega (arith, n)) (omega (arith, n))
      (λ h. absurd (omega arith)) (λ i h. ap (λ (m : ℕ). get_or vs m 0) (zero-add i))
