-- One channel of frames that lie one behind the other: that of the first ones, then that of the rest. Assumes nothing.
use Prim.Native.Nat.{ℕ, zero, suc, ◌+◌, ◌*◌, ◌≤◌, ◌<◌}
use native.Mathlib.Nat.{add-zero, add-suc, add_assoc, add-mul, mul_comm, mul_assoc, mul-le-mul_right}
use native.Mathlib.Omega.{arith}
use mathlib.Core.Bool.{Bool, true, false, ◌||◌}
use mathlib.Core.List.{List, [], ◌∷◌, ◌++◌, append-nil, append_assoc}
use mathlib.Core.Path.{◌≡◌, refl, ap, sym, ◌∙◌}
use borrow.Author.Tests.{leb-true, leb-false, le-leb, lt-leb}
use lib.Dec.{leb, eqb}
use lib.Ieee.{fin, binary32, mul, of_bits, of_int}
use lib.IntN.{pos}
use lib.ListN.{length, get_or, length-append, get_or-append}
use lib.Seq.{get_or-append-add}
use mir.Syntax.{w16}
use mir.Val.{to_z}
use Rattle.fields.specs.Fields.{field_at}
use Rattle.fields.specs.Reads.{field_in, field_same, le_same}
use Rattle.sound.specs.Fill.{tab}
use Rattle.sound.specs.Sound.{pcm_at, pcm_of}
use Rattle.sound.specs.Perform.{four_wide}

-- ---- computed values

module _ {A : Type 0} where
  tab_alike : (n : ℕ) (f g : ℕ → A) → ((i : ℕ) → i < n → f i ≡ g i) → tab n f ≡ tab n g
  unfolding tab
  tab_alike zero f g h = refl
  tab_alike (suc n) f g h = λ i. tab_alike n f g (λ k l. h k (omega arith)) i ++ (h n (omega arith) i ∷ [])

  tab_join : (k j : ℕ) (f : ℕ → A) → tab (k + j) f ≡ tab k f ++ tab j (λ i. f (k + i))
  unfolding tab
  tab_join k zero f = (λ i. tab (add-zero k i) f) ∙ sym (append-nil (tab k f))
  tab_join k (suc j) f =
      (λ i. tab (add-suc k j i) f)
      ∙ ap (λ (l : List A). l ++ (f (k + j) ∷ [])) (tab_join k j f)
      ∙ append_assoc (tab k f) (tab j (λ i. f (k + i))) (f (k + j) ∷ [])

-- ---- a field of a list that goes on, and of one that begins before

field_first : (w : ℕ) (a b : List ℕ) (o : ℕ) → o + w ≤ length a → field_at w (a ++ b) o ≡ field_at w a o
field_first w a b o h =
    field_in w (a ++ b) o (simp length-append (omega arith))
    ∙ le_same w (a ++ b) a o o (λ i l. get_or-append a b 0 (o + i) (omega arith))
    ∙ sym (field_in w a o h)

less_both : (x y z : ℕ) → leb (x + y) (x + z) ≡ leb y z
less_both x y z = by_test (leb y z) refl where
  by_test : (t : Bool) → leb y z ≡ t → leb (x + y) (x + z) ≡ t
  by_test true e = le-leb (x + y) (x + z) (omega (arith, leb-true y z e))
  by_test false e = lt-leb (x + y) (x + z) (omega (arith, leb-false y z e))

field_second : (w : ℕ) (a b : List ℕ) (o : ℕ) → field_at w (a ++ b) (length a + o) ≡ field_at w b o
field_second w a b o =
    field_same w (a ++ b) b (length a + o) o
    ((λ i. leb (add_assoc (length a) o w i) (length-append a b i)) ∙ less_both (length a) (o + w) (length b))
    (λ i l. (λ j. get_or (a ++ b) (add_assoc (length a) o i j) 0) ∙ get_or-append-add a b (o + i) 0)

-- ---- a sample

sample_first : (w : ℕ) → eqb w 2 || eqb w 4 ≡ true → (a b : List ℕ) (o : ℕ) → o + w ≤ length a → pcm_at w (a ++ b) o ≡ pcm_at w a o
unfolding pcm_at
sample_first zero h a b o l = refl
sample_first (suc zero) h a b o l = refl
sample_first (suc (suc zero)) h a b o l = ap (λ (v : ℕ). of_int binary32 (to_z w16 v)) (field_first 2 a b o l)
sample_first (suc (suc (suc w))) h a b o l =
    let four : suc (suc (suc w)) ≡ 4 = four_wide h (λ e. omega arith) in
    ap (λ (v : ℕ). mul binary32 (of_bits binary32 v) (fin false 1 (pos 15))) (field_first 4 a b o (omega arith))

sample_second : (w : ℕ) (a b : List ℕ) (o : ℕ) → pcm_at w (a ++ b) (length a + o) ≡ pcm_at w b o
unfolding pcm_at
sample_second zero a b o = refl
sample_second (suc zero) a b o = refl
sample_second (suc (suc zero)) a b o = ap (λ (v : ℕ). of_int binary32 (to_z w16 v)) (field_second 2 a b o)
sample_second (suc (suc (suc w))) a b o =
    ap (λ (v : ℕ). mul binary32 (of_bits binary32 v) (fin false 1 (pos 15))) (field_second 4 a b o)

-- ---- where a frame's samples lie

-- before the end of k frames
place_first : (w ch c j k : ℕ) → c < ch → j < k → (j * ch + c) * w + w ≤ k * (w * ch)
place_first w ch c j k h l =
    let rows : suc j * ch ≤ k * ch = mul-le-mul_right ch (omega arith) in
    let row : suc j * ch ≡ ch + j * ch = omega arith in
    let bytes : suc (j * ch + c) * w ≤ k * ch * w = mul-le-mul_right w (omega arith) in
    let one : suc (j * ch + c) * w ≡ w + (j * ch + c) * w = omega arith in
    let all : k * ch * w ≡ k * (w * ch) = mul_assoc k ch w ∙ ap (λ (x : ℕ). k * x) (mul_comm ch w) in
    omega arith

-- behind k frames
place_second : (w ch c i k : ℕ) → ((k + i) * ch + c) * w ≡ k * (w * ch) + (i * ch + c) * w
place_second w ch c i k =
    (λ t. (add-mul k i ch t + c) * w)
    ∙ (λ t. add_assoc (k * ch) (i * ch) c t * w)
    ∙ add-mul (k * ch) (i * ch + c) w
    ∙ (λ t. (mul_assoc k ch w ∙ ap (λ (x : ℕ). k * x) (mul_comm ch w)) t + (i * ch + c) * w)

-- ---- frames

pub pcm_join : (w ch c : ℕ) → eqb w 2 || eqb w 4 ≡ true → c < ch → (a b : List ℕ) (k j : ℕ) → length a ≡ k * (w * ch)
    → pcm_of w ch c (a ++ b) (k + j) ≡ pcm_of w ch c a k ++ pcm_of w ch c b j
unfolding pcm_of
pcm_join w ch c wide h a b k j long =
    tab_join k j (λ i. pcm_at w (a ++ b) ((i * ch + c) * w))
    ∙ (λ t.
    tab_alike k (λ i. pcm_at w (a ++ b) ((i * ch + c) * w)) (λ i. pcm_at w a ((i * ch + c) * w))
    (λ i l. sample_first w wide a b ((i * ch + c) * w) (omega (arith, place_first w ch c i k h l))) t
    ++ tab_alike j (λ i. pcm_at w (a ++ b) (((k + i) * ch + c) * w)) (λ i. pcm_at w b ((i * ch + c) * w))
    (λ i l.
    ap (pcm_at w (a ++ b)) (place_second w ch c i k ∙ (λ s. sym long s + (i * ch + c) * w)) ∙ sample_second w a b ((i * ch + c) * w)) t)
