-- The decoder's invariant by a whole frame, and the frame's own, by two samples a turn. Assumes nothing.
use mathlib.Core.Path.{◌≡◌, refl, sym, ap, ◌∙◌, subst}
use mathlib.Core.List.{List, ◌++◌, append_assoc, append-nil, map-append}
use Prim.Native.Nat.{ℕ, zero, suc, ◌+◌, ◌*◌, ◌-◌, ◌%◌, ◌/◌, ◌≤◌, ◌<◌}
use native.Mathlib.Nat.{add_assoc}
use native.Mathlib.Omega.{arith}
use lib.Ieee.{Float, binary32, of_int}
use lib.IntN.{ℤ, pos}
use lib.ListN.{length, take, drop, set, get_or, length-append, length-drop, length-map}
use lib.Seq.{length-take-le, take_at, drop_at, drop-drop, drop-length}
use mir.Syntax.{w16}
use mir.Val.{SFits}
use Rattle.adpcm.specs.Step.{step_of, step_fits}
use Rattle.adpcm.specs.Decode.{pair_of, after, took_of, Run, run_from, floated, Decodes}
use Rattle.adpcm.specs.declared.context.AdpcmContext.{AdpcmContext}
use Rattle.std.specs.Prelude.{Ok}
use Rattle.adpcm.proofs.Going.{Going, begin, more, whole}
use Rattle.adpcm.proofs.Frames.{joined, split, took_first, took_even, took_odd}

-- ---- n samples further, decoded into their part of the output
module _ (s : List ℕ) (base : ℕ) (k : List ℤ) (count start : ℕ) (x₀ : AdpcmContext) (out₀ out new : List Float) (x y : AdpcmContext) (done n : ℕ)
    (fits : count ≤ length out₀) (inside : done + n ≤ count) (g : Going s base k count start x₀ out₀ out x done)
    (d : Decodes (run_from s base k n (start + done) x) (take (done + n - done) (drop done out)) new n y) where
  abbrev r : Run
  r = run_from s base k n (start + done) x

  abbrev p : ℕ
  p = count - (done + n)

  wide : done + n - done ≡ n
  wide = omega arith

  part_long : length (take (done + n - done) (drop done out)) ≡ n
  part_long = length-take-le (done + n - done) (drop done out) (omega (arith, length-drop done out, g.size)) ∙ wide

  new_is : new ≡ floated r.samples
  new_is =
      d.output
      ∙ ap (λ (j : ℕ). floated r.samples ++ drop j (take (done + n - done) (drop done out))) (sym d.count ∙ sym part_long)
      ∙ ap (λ (l : List Float). floated r.samples ++ l) (drop-length (take (done + n - done) (drop done out)))
      ∙ append-nil (floated r.samples)

  head_long : length (take done out ++ new) ≡ done + n
  head_long =
      let l : length new ≡ n = ap length new_is ∙ length-map r.samples (of_int binary32) ∙ sym d.count in
      length-append (take done out) new ∙ (λ i. length-take-le done out (omega (arith, g.size)) i + l i)

  abbrev tail : List Float
  tail = drop (done + n - done) (drop done out)

  back : take done out ++ (new ++ tail) ≡ (take done out ++ new) ++ tail
  back = sym (append_assoc (take done out) new tail)

  tail_is : tail ≡ drop (done + n) out
  tail_is = ap (λ (j : ℕ). drop j (drop done out)) wide ∙ drop-drop n done out

  abbrev rest_of : Run
  rest_of = run_from s base k p (start + (done + n)) y

  left : run_from s base k (count - done) (start + done) x ≡ joined r rest_of
  left =
      let e : count - done ≡ n + p = omega arith in
      ap (λ (j : ℕ). run_from s base k j (start + done) x) e
      ∙ split s base k n p (start + done) x (sym d.count)
      ∙ (λ i. joined r (run_from s base k p (add_assoc start done n i) (sym d.context i)))

  ahead : Going s base k count start x₀ out₀ (take done out ++ (new ++ tail)) y (done + n)
  ahead = record {
    le = inside;
    size = ap length back ∙ length-append (take done out ++ new) tail ∙ (λ i. head_long i + length (tail_is i)) ∙ ap (λ (j : ℕ). done + n + j) (length-drop (done + n) out) ∙ omega (arith, g.size);
    samples = g.samples ∙ ap (λ (q : Run). take done out ++ floated q.samples) left
        ∙ ap (λ (l : List Float). take done out ++ l) (map-append (of_int binary32) r.samples rest_of.samples)
        ∙ sym (append_assoc (take done out) (floated r.samples) (floated rest_of.samples))
        ∙ (λ i. (take done out ++ sym new_is i) ++ floated rest_of.samples)
        ∙ ap (λ (l : List Float). l ++ floated rest_of.samples) (sym (ap (take (done + n)) back ∙ take_at (take done out ++ new) tail (done + n) head_long));
    context = g.context ∙ ap (λ (q : Run). q.context) left;
    rest = ap (drop (done + n)) back ∙ drop_at (take done out ++ new) tail (done + n) head_long ∙ tail_is
        ∙ sym (drop-drop n done out) ∙ ap (drop n) g.rest ∙ drop-drop n done out₀;
  }

-- the same where the run is another's
pub ahead_by : (s : List ℕ) (base : ℕ) (k : List ℤ) (count start : ℕ) (x₀ : AdpcmContext) (out₀ out new : List Float) (x y : AdpcmContext) (done n : ℕ) (q : Run)
    → count ≤ length out₀ → done + n ≤ count → Going s base k count start x₀ out₀ out x done → run_from s base k n (start + done) x ≡ q
    → Decodes q (take (done + n - done) (drop done out)) new n y
    → Going s base k count start x₀ out₀ (take done out ++ (new ++ drop (done + n - done) (drop done out))) y (done + n)
ahead_by s base k count start x₀ out₀ out new x y done n q fits inside g e d =
    ahead s base k count start x₀ out₀ out new x y done n fits inside g (subst (λ (o : Run). Decodes o (take (done + n - done) (drop done out)) new n y) (sym e) d)

abbrev pub context : ℕ → ℤ → ℤ → AdpcmContext
context b h0 h1 = record { pred_scale = b; history0 = h0; history1 = h1 }

-- the header of a frame
abbrev head : List ℕ → ℕ
head f = get_or f 0 0

-- its next sample, by the nibble
abbrev pub next : List ℕ → List ℤ → ℕ → ℤ → ℤ → ℤ
next f k v h0 h1 = step_of v (head f % 16) (get_or k (pair_of (head f)) (pos 0)) (get_or k (pair_of (head f) + 1) (pos 0)) h0 h1

-- ---- within a frame f: after i of its 7 bytes, with the last two samples h0 and h1
module _ (f : List ℕ) (k : List ℤ) (x₀ : AdpcmContext) (out₀ : List Float) where
  -- the context has the header, once a sample was taken
  pub record Framed (out : List Float) (h0 h1 : ℤ) (i : ℕ) : Type 0 where
    pub scale : ℕ
    pub going : Going f 0 k 14 0 x₀ out₀ out (context scale h0 h1) (2 * i)
    pub headed : 0 < i → scale ≡ head f
    pub fits0 : SFits w16 h0
    pub fits1 : SFits w16 h1

  module _ (long : length f ≡ 8) where
    took_high : (i b : ℕ) (h0 h1 : ℤ) → i < 7 → (0 < i → b ≡ head f)
        → took_of f 0 k (0 + 2 * i) (context b h0 h1) ≡ Ok (after (get_or f (i + 1) 0 / 16) k (context (head f) h0 h1))
    took_high zero b h0 h1 l e = took_first k f long (context b h0 h1)
    took_high (suc i) b h0 h1 l e =
        let n = suc i in
        let at : (0 + 2 * n + 2) / 2 ≡ n + 1 = omega arith in
        ap (λ (c : ℕ). took_of f 0 k (0 + 2 * n) (context c h0 h1)) (e (omega arith))
        ∙ took_even k f long (0 + 2 * n) (context (head f) h0 h1) (omega arith) (omega arith) (omega arith)
        ∙ ap (λ (j : ℕ). Ok (after (get_or f j 0 / 16) k (context (head f) h0 h1))) at

    took_low : (i : ℕ) (h0 h1 : ℤ) → i < 7 → took_of f 0 k (0 + (2 * i + 1)) (context (head f) h0 h1) ≡ Ok (after (get_or f (i + 1) 0 % 16) k (context (head f) h0 h1))
    took_low i h0 h1 l =
        let at : (0 + (2 * i + 1) + 2) / 2 ≡ i + 1 = omega arith in
        took_odd k f long (0 + (2 * i + 1)) (context (head f) h0 h1) (omega arith) (omega arith)
        ∙ ap (λ (j : ℕ). Ok (after (get_or f j 0 % 16) k (context (head f) h0 h1))) at

    module _ (size : length out₀ ≡ 14) where
      pub framed_begin : SFits w16 x₀.history0 → SFits w16 x₀.history1 → Framed out₀ x₀.history0 x₀.history1 0
      framed_begin p q = record { scale = x₀.pred_scale; going = begin f 0 k 14 0 x₀ out₀; headed = λ h. absurd (omega arith); fits0 = p; fits1 = q }

      -- with a and b for the byte's two samples
      turned : (out : List Float) (h0 h1 : ℤ) (i : ℕ) → i < 7 → Framed out h0 h1 i →
          let a = next f k (get_or f (i + 1) 0 / 16) h0 h1 in
          let b = next f k (get_or f (i + 1) 0 % 16) a h0 in
          Framed (set (set out (2 * i) (of_int binary32 a)) (2 * i + 1) (of_int binary32 b)) b a (i + 1)
      turned out h0 h1 i l d =
          let a = next f k (get_or f (i + 1) 0 / 16) h0 h1 in
          let b = next f k (get_or f (i + 1) 0 % 16) a h0 in
          let one = more f 0 k 14 0 x₀ out₀ out (context d.scale h0 h1) (context (head f) a h0) (2 * i) (omega arith) (omega arith) d.going (took_high i d.scale h0 h1 l d.headed) in
          let both = more f 0 k 14 0 x₀ out₀ (set out (2 * i) (of_int binary32 a)) (context (head f) a h0) (context (head f) b a) (2 * i + 1) (omega arith) (omega arith) one (took_low i a h0 l) in
          let e : 2 * i + 1 + 1 ≡ 2 * (i + 1) = omega arith in
          record {
            scale = head f;
            going = subst (Going f 0 k 14 0 x₀ out₀ (set (set out (2 * i) (of_int binary32 a)) (2 * i + 1) (of_int binary32 b)) (context (head f) b a)) e both;
            headed = λ h. refl;
            fits0 = step_fits _ _ _ _ _ _;
            fits1 = step_fits _ _ _ _ _ _;
          }

      pub framed_more : (out : List Float) (h0 h1 : ℤ) (i : ℕ) (a b : ℤ) → i < 7 → Framed out h0 h1 i
          → next f k (get_or f (i + 1) 0 / 16) h0 h1 ≡ a → next f k (get_or f (i + 1) 0 % 16) a h0 ≡ b
          → Framed (set (set out (2 * i) (of_int binary32 a)) (2 * i + 1) (of_int binary32 b)) b a (i + 1)
      framed_more out h0 h1 i a b l d p q =
          subst (λ (w : ℤ). Framed (set (set out (2 * i) (of_int binary32 a)) (2 * i + 1) (of_int binary32 w)) w a (i + 1)) q
          (subst (λ (h : ℤ). Framed (set (set out (2 * i) (of_int binary32 h)) (2 * i + 1) (of_int binary32 (next f k (get_or f (i + 1) 0 % 16) h h0))) (next f k (get_or f (i + 1) 0 % 16) h h0) h (i + 1)) p
          (turned out h0 h1 i l d))

      pub framed_end : (out : List Float) (h0 h1 : ℤ) (i : ℕ) → i ≡ 7 → Framed out h0 h1 i → Decodes (run_from f 0 k 14 0 x₀) out₀ out 14 (context (head f) h0 h1)
      framed_end out h0 h1 i e d =
          let t : 2 * i ≡ 14 = omega arith in
          subst (λ (n : ℕ). Decodes (run_from f 0 k 14 0 x₀) out₀ out n (context (head f) h0 h1)) t
          (subst (λ (b : ℕ). Decodes (run_from f 0 k 14 0 x₀) out₀ out (2 * i) (context b h0 h1)) (d.headed (omega arith))
          (whole f 0 k 14 0 x₀ out₀ out (context d.scale h0 h1) (2 * i) (omega arith) (omega arith) d.going))
