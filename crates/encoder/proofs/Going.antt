-- The loop over the frames: what is written and what is left are the whole. Assumes nothing.
use Prim.Native.Nat.{ℕ, zero, suc, ◌+◌, ◌-◌, ◌/◌, ◌≤◌, ◌<◌, ◌^◌, min}
use mathlib.Core.Path.{◌≡◌, refl, sym, ap, ◌∙◌, subst}
use mathlib.Core.Logic.{⊎_elim}
use mathlib.Core.List.{List, [], ◌++◌, append_assoc, append-nil}
use native.Mathlib.Nat.{zero-add}
use native.Mathlib.Omega.{arith}
use lib.IntN.{ℤ}
use lib.ListN.{length, take, drop, length-append, length-take, length-drop, drop_of_length-le}
use lib.Seq.{take_all, take_at, drop-drop, length-take-le}
use Rattle.adpcm.specs.declared.context.AdpcmContext.{AdpcmContext}
use Rattle.adpcm.specs.Places.{size_of}
use Rattle.trial.specs.Trial.{frame_samples}
use Rattle.encoder.specs.Answer.{Encodes}
use Rattle.encoder.specs.Encode.{Encoded, encoded_from, encoded_of, saturated, frame_of}
use Rattle.encoder.specs.Frame.{frame_size, Frames}
use Rattle.encoder.proofs.Sums.{saturated_add, saturated_is}
use Rattle.encoder.proofs.Sizes.{le_or, size_none, size_split, Count, count_of, count_next, length_frame_with}

module _ (k ts : List ℤ) (x₀ : AdpcmContext) (out₀ : List ℕ) where
  -- after `at` samples and `put` bytes, with n frames left
  pub record Going (out : List ℕ) (x : AdpcmContext) (error at put : ℕ) : Type 0 where
    pub n : ℕ
    pub count : Count (drop at ts) n
    pub inside : at ≤ length ts
    pub small : error ≤ 2 ^ 64 - 1
    pub size : length out ≡ length out₀
    pub room : put + size_of (length (drop at ts)) ≡ length out₀
    pub bytes : take put out ++ (encoded_from n k (drop at ts) x).bytes ≡ (encoded_of k ts x₀).bytes
    pub context : (encoded_from n k (drop at ts) x).context ≡ (encoded_of k ts x₀).context
    pub error_is : saturated (error + (encoded_from n k (drop at ts) x).error) ≡ saturated (encoded_of k ts x₀).error

  -- before the first frame
  pub go_begin : length out₀ ≡ size_of (length ts) → Going out₀ x₀ 0 0 0
  go_begin e = record {
    n = (length ts + 13) / 14;
    count = count_of ts;
    inside = omega arith;
    small = omega arith;
    size = refl;
    room = omega (arith, e);
    bytes = refl;
    context = refl;
    error_is = ap saturated (zero-add _);
  }

  module _ (out : List ℕ) (x : AdpcmContext) (error at put : ℕ) (p : Going out x error at put) where
    -- the samples that are left
    abbrev left : List ℤ
    left = drop at ts

    -- n frames from here on
    abbrev onward : ℕ → Encoded
    onward n = encoded_from n k left x

    -- the next frame has m samples
    module _ (more : at < length ts) (m : ℕ) (few : m ≡ min frame_samples (length ts - at)) where
      left_long : length left ≡ length ts - at
      left_long = length-drop at ts

      -- the frame's samples, as the code lends them
      now_is : take (at + m - at) left ≡ take frame_samples left
      now_is = ap (λ (j : ℕ). take j left) e ∙ ⊎_elim full short (le_or frame_samples (length left))
        where
          e : at + m - at ≡ m
          e = omega arith

          full : frame_samples ≤ length left → take m left ≡ take frame_samples left
          full z = let f : m ≡ frame_samples = omega (arith, left_long) in ap (λ (j : ℕ). take j left) f

          short : length left ≤ frame_samples → take m left ≡ take frame_samples left
          short z = take_all m left (omega (arith, left_long)) ∙ sym (take_all frame_samples left z)

      -- and those after it
      then_is : drop frame_samples left ≡ drop (at + m) ts
      then_is = ⊎_elim full short (le_or frame_samples (length left))
        where
          full : frame_samples ≤ length left → drop frame_samples left ≡ drop (at + m) ts
          full z =
              let f : m ≡ frame_samples = omega (arith, left_long) in
              drop-drop frame_samples at ts ∙ ap (λ (j : ℕ). drop (at + j) ts) (sym f)

          short : length left ≤ frame_samples → drop frame_samples left ≡ drop (at + m) ts
          short z =
              let f : length ts ≤ at + m = omega (arith, left_long) in
              drop_of_length-le left {i = frame_samples} z ∙ sym (drop_of_length-le ts {i = at + m} f)

      now_long : length (take frame_samples left) ≡ m
      now_long = length-take frame_samples left ∙ omega (arith, left_long)

      size_left : size_of (length left) ≡ frame_size m + size_of (length left - frame_samples)
      size_left = size_split (length left) m (omega (arith, left_long)) (omega (arith, left_long))

      -- the frame has room
      pub go_room : put + frame_size m ≤ length out
      go_room = omega (arith, p.size, p.room, size_left)

      -- what the frame leaves: its bytes, its context and its sum
      module _ (new : List ℕ) (y : AdpcmContext) (e : ℕ) (f : Frames k (take (at + m - at) left) x new y e) where
        abbrev w : ℕ
        w = frame_size m

        abbrev tail : List ℕ
        tail = drop (put + w - put) (drop put out)

        -- the output with the frame's bytes
        abbrev out' : List ℕ
        out' = take put out ++ (new ++ tail)

        abbrev frame : Encoded
        frame = frame_of k (take frame_samples left) x

        -- n frames after this one
        abbrev others : ℕ → Encoded
        others n = encoded_from n k (drop frame_samples left) frame.context

        bytes_are : new ≡ frame.bytes
        bytes_are = f.bytes ∙ ap (λ (l : List ℤ). (frame_of k l x).bytes) now_is

        context_is : y ≡ frame.context
        context_is = f.context ∙ ap (λ (l : List ℤ). (frame_of k l x).context) now_is

        error_now : e ≡ frame.error
        error_now = f.error_is ∙ ap (λ (l : List ℤ). (frame_of k l x).error) now_is

        others_are : (n : ℕ) → encoded_from n k (drop (at + m) ts) y ≡ others n
        others_are n = λ i. encoded_from n k (sym then_is i) (context_is i)

        new_long : length new ≡ w
        new_long =
            ap length bytes_are ∙ length_frame_with k (take frame_samples left) x.history0 x.history1 _ ∙ ap frame_size now_long

        head_long : length (take put out ++ new) ≡ put + w
        head_long = length-append (take put out) new ∙ (λ i. length-take-le put out (omega (arith, go_room)) i + new_long i)

        tail_long : length tail ≡ length out - put - w
        tail_long =
            let q : put + w - put ≡ w = omega arith in
            length-drop (put + w - put) (drop put out) ∙ (λ i. length-drop put out i - q i)

        cut : out' ≡ (take put out ++ new) ++ tail
        cut = sym (append_assoc (take put out) new tail)

        size_kept : length out' ≡ length out₀
        size_kept =
            ap length cut
            ∙ length-append (take put out ++ new) tail
            ∙ (λ i. head_long i + tail_long i)
            ∙ omega (arith, go_room, p.size)

        room_left : put + w + size_of (length (drop (at + m) ts)) ≡ length out₀
        room_left =
            let r : length (drop (at + m) ts) ≡ length left - frame_samples = ap length (sym then_is) ∙ length-drop frame_samples left in
            let q : size_of (length (drop (at + m) ts)) ≡ size_of (length left - frame_samples) = ap size_of r in
            omega (arith, q, p.room, size_left)

        -- with this frame the output begins as before, and goes on with its bytes
        front : take (put + w) out' ≡ take put out ++ new
        front = ap (take (put + w)) cut ∙ take_at (take put out ++ new) tail (put + w) head_long

        after : (n : ℕ) → n ≡ p.n → Going out' y (saturated (error + e)) (at + m) (put + w)
        unfolding encoded_from
        after zero z = absurd (omega (arith, p.count.most, left_long, z))
        after (suc n) z = record {
          n = n;
          count = subst (λ (l : List ℤ). Count l n) then_is (count_next left n (subst (Count left) (sym z) p.count));
          inside = omega (arith, few);
          small = omega arith;
          size = size_kept;
          room = room_left;
          bytes = (λ i. front i ++ (others_are n i).bytes)
              ∙ append_assoc (take put out) new (others n).bytes
              ∙ (λ i. take put out ++ (bytes_are i ++ (others n).bytes))
              ∙ ap (λ (j : ℕ). take put out ++ (onward j).bytes) z
              ∙ p.bytes;
          context = ap (λ (g : Encoded). g.context) (others_are n) ∙ ap (λ (j : ℕ). (onward j).context) z ∙ p.context;
          error_is = (λ i. saturated (saturated (error + error_now i) + (others_are n i).error))
              ∙ saturated_add error frame.error (others n).error
              ∙ ap (λ (j : ℕ). saturated (error + (onward j).error)) z
              ∙ p.error_is;
        }

        -- after this frame, with the sum as the code holds it
        pub go_more : (sum : ℕ) → sum ≡ saturated (error + e) → Going out' y sum (at + m) (put + w)
        go_more sum q = subst (λ (j : ℕ). Going out' y j (at + m) (put + w)) (sym q) (after p.n refl)

    end_by : (n : ℕ) → n ≡ p.n → length left ≡ 0 → Encodes k ts x₀ out x error
    unfolding encoded_from
    end_by (suc n) z none = absurd (omega (arith, p.count.last, z))
    end_by zero z none =
        let q : size_of (length left) ≡ 0 = ap size_of none ∙ size_none in
        let full : length out ≤ put = omega (arith, q, p.room, p.size) in
        record {
          bytes = sym (append-nil out)
              ∙ (λ i. sym (take_all put out full) i ++ [])
              ∙ ap (λ (j : ℕ). take put out ++ (onward j).bytes) z
              ∙ p.bytes;
          context = ap (λ (j : ℕ). (onward j).context) z ∙ p.context;
          error_is = saturated_is error p.small ∙ ap (λ (j : ℕ). saturated (error + (onward j).error)) z ∙ p.error_is;
        }

    -- no samples are left
    pub go_end : length ts ≤ at → Encodes k ts x₀ out x error
    go_end h = end_by p.n refl (omega (arith, length-drop at ts))
