-- The loop that writes a frame's nibbles, two to a byte. Assumes nothing.
use Prim.Native.Nat.{ℕ, suc, ◌+◌, ◌*◌, ◌/◌, ◌≤◌, ◌<◌}
use mathlib.Core.Path.{◌≡◌, refl, sym, ap, subst, ◌∙◌}
use mathlib.Core.List.{List, [], ◌∷◌, ◌++◌, append-nil}
use native.Mathlib.Numerals.{add-one}
use native.Mathlib.Omega.{arith}
use lib.IntN.{ℤ, pos}
use lib.ListN.{length, take, drop, set, get_or, length-set, drop_of_length-le}
use lib.Seq.{drop-cons, take-suc-set, append_snoc, take_all}
use mir.Syntax.{w16}
use mir.Val.{SFits}
use Rattle.adpcm.specs.declared.context.AdpcmContext.{AdpcmContext}
use Rattle.adpcm.specs.Step.{step_fits}
use Rattle.nearest.specs.Nearest.{nearest_of, Chosen}
use Rattle.trial.specs.Trial.{nearest_sample, nibbles_of, reconstructed_of}
use Rattle.encoder.specs.Encode.{packed, context_after}
use Rattle.encoder.specs.Frame.{bytes_for, context_for, Packs, Puts}

-- scale s, pair c, d
module _ (s : ℕ) (c d : ℤ) where
  abbrev bytes_from : List ℤ → ℤ → ℤ → List ℕ
  bytes_from = bytes_for s c d

  abbrev context_from : ℕ → List ℤ → ℤ → ℤ → AdpcmContext
  context_from = context_for s c d

  -- the same of equal numbers
  pub packs_by : {ts rest : List ℤ} {h0 h1 : ℤ} {byte byte' : ℕ} {a a' b b' : ℤ}
      → byte' ≡ byte → a' ≡ a → b' ≡ b → Packs s c d ts rest h0 h1 byte a b → Packs s c d ts rest h0 h1 byte' a' b'
  packs_by {rest = rest} e ea eb p = record {
    bytes = p.bytes ∙ (λ i. sym e i ∷ bytes_from rest (sym ea i) (sym eb i));
    left = λ k. p.left k ∙ (λ i. context_from k rest (sym ea i) (sym eb i));
    fits0 = subst (SFits w16) (sym ea) p.fits0;
    fits1 = subst (SFits w16) (sym eb) p.fits1;
  }

  -- sample i, which is t, has the nibble v, which decodes to y
  module _ (ts : List ℤ) (i : ℕ) (h0 h1 : ℤ) (old : SFits w16 h0)
      (t : ℤ) (is : t ≡ get_or ts i (pos 0)) (v : ℕ) (y : ℤ) (off : ℕ) (k : Chosen t s c d h0 h1 v y off) where
    y_fits : SFits w16 y
    y_fits = rw k.sample_is (step_fits _ _ _ _ _ _)

    -- the last sample alone
    pub packs_last : length ts ≡ suc i → Packs s c d (drop i ts) (drop (i + 2) ts) h0 h1 (v * 16) y h0
    unfolding packed nibbles_of reconstructed_of context_after nearest_sample
    packs_last e =
        let one : drop i ts ≡ t ∷ [] =
        drop-cons ts i (pos 0) (omega arith) ∙ (λ j. sym is j ∷ drop_of_length-le ts {i = suc i} (omega arith) j) in
        let none : drop (i + 2) ts ≡ [] = drop_of_length-le ts {i = i + 2} (omega arith) in
        record {
          bytes = ap (λ (l : List ℤ). bytes_from l h0 h1) one ∙ (λ j. (sym k.nibble_is j * 16) ∷ bytes_from (sym none j) y h0);
          left = λ b. ap (λ (l : List ℤ). context_from b l h0 h1) one ∙ (λ j. context_from b (sym none j) (sym k.sample_is j) h0);
          fits0 = y_fits;
          fits1 = old;
        }

    -- and the next, which is u, has the nibble w, which decodes to z
    module _ (u : ℤ) (is2 : u ≡ get_or ts (i + 1) (pos 0)) (w : ℕ) (z : ℤ) (off2 : ℕ) (k2 : Chosen u s c d y h0 w z off2) where
      pub packs_two : i + 1 < length ts → Packs s c d (drop i ts) (drop (i + 2) ts) h0 h1 (v * 16 + w) z y
      unfolding packed nibbles_of reconstructed_of context_after nearest_sample
      packs_two h =
          let rest = drop (i + 2) ts in
          let nibble = sym k.nibble_is in
          let sample = sym k.sample_is in
          let m : suc (i + 1) ≡ i + 2 = omega arith in
          let n : suc i ≡ i + 1 = omega arith in
          let two : drop i ts ≡ t ∷ (u ∷ rest) =
          drop-cons ts i (pos 0) (omega arith)
          ∙ (λ j. sym is j ∷ drop (n j) ts)
          ∙ ap (λ (l : List ℤ). t ∷ l) (drop-cons ts (i + 1) (pos 0) h ∙ (λ j. sym is2 j ∷ drop (m j) ts)) in
          record {
            bytes = ap (λ (l : List ℤ). bytes_from l h0 h1) two
                ∙ (λ j. (nibble j * 16 + nearest_of u s c d (sample j) h0) ∷ bytes_from rest (nearest_sample s c d u (sample j) h0) (sample j))
                ∙ (λ j. (v * 16 + sym k2.nibble_is j) ∷ bytes_from rest (sym k2.sample_is j) y);
            left = λ b. ap (λ (l : List ℤ). context_from b l h0 h1) two
                ∙ (λ j. context_from b rest (nearest_sample s c d u (sample j) h0) (sample j))
                ∙ (λ j. context_from b rest (sym k2.sample_is j) y);
            fits0 = rw k2.sample_is (step_fits _ _ _ _ _ _);
            fits1 = y_fits;
          }

  -- ---- the loop: after j bytes, which have two samples each, the last two samples are a and b
  module _ (ts : List ℤ) (h0 h1 : ℤ) (out₀ : List ℕ) where
    pub record Putting (out : List ℕ) (a b : ℤ) (j : ℕ) : Type 0 where
      pub count : j ≤ length out₀
      pub size : length out ≡ length out₀
      pub bytes : take j out ++ bytes_from (drop (2 * j) ts) a b ≡ bytes_from ts h0 h1
      pub left : (k : ℕ) → context_from k (drop (2 * j) ts) a b ≡ context_from k ts h0 h1
      pub fits0 : SFits w16 a
      pub fits1 : SFits w16 b

    -- before the first byte
    pub put_begin : SFits w16 h0 → SFits w16 h1 → Putting out₀ h0 h1 0
    put_begin p q = record { count = omega arith; size = refl; bytes = refl; left = λ k. refl; fits0 = p; fits1 = q }

    module _ (out : List ℕ) (a b : ℤ) (j : ℕ) (p : Putting out a b j) where
      -- one byte more
      pub put_more : j < length out₀ → (byte : ℕ) (y z : ℤ)
          → Packs s c d (drop (2 * j) ts) (drop (2 * j + 2) ts) a b byte y z
          → Putting (set out j byte) y z (j + 1)
      put_more h byte y z r =
          let m : 2 * j + 2 ≡ 2 * (j + 1) = omega arith in
          let others = bytes_from (drop (2 * j + 2) ts) y z in
          record {
            count = omega arith;
            size = length-set out j byte ∙ p.size;
            bytes = (λ i. take (add-one j i) (set out j byte) ++ bytes_from (drop (sym m i) ts) y z)
                ∙ ap (λ (l : List ℕ). l ++ others) (take-suc-set out j byte (omega (arith, p.size)))
                ∙ append_snoc (take j out) byte others
                ∙ ap (λ (l : List ℕ). take j out ++ l) (sym r.bytes)
                ∙ p.bytes;
            left = λ k. (λ i. context_from k (drop (sym m i) ts) y z) ∙ sym (r.left k) ∙ p.left k;
            fits0 = r.fits0;
            fits1 = r.fits1;
          }

      -- all bytes are written
      pub put_end : length out₀ ≡ (length ts + 1) / 2 → length out₀ ≤ j → Puts s c d ts h0 h1 out a b
      unfolding packed nibbles_of reconstructed_of
      put_end long h =
          let none : drop (2 * j) ts ≡ [] = drop_of_length-le ts {i = 2 * j} (omega arith) in
          record {
            bytes = sym (append-nil out)
                ∙ (λ i. sym (take_all j out (omega (arith, p.size))) i ++ bytes_from (sym none i) a b)
                ∙ p.bytes;
            left = λ k. (λ i. context_from k (sym none i) a b) ∙ p.left k;
          }
