-- Frames that are taken stretch by stretch: what has been made so far, and what a turn adds. Assumes nothing.
use Prim.Native.Nat.{ℕ, ◌+◌, ◌-◌, ◌*◌, ◌^◌, ◌≤◌, ◌<◌}
use native.Mathlib.Nat.{add-mul, mul-le-mul, mul-le-mul_right}
use native.Mathlib.Omega.{arith}
use mathlib.Core.Bool.{Bool, true, false, ◌||◌}
use mathlib.Core.List.{List, ◌++◌, append_assoc}
use mathlib.Core.Path.{◌≡◌, refl, ap, sym, subst, ◌∙◌}
use borrow.Author.Tests.{eqb-true, eqb-false}
use lib.Dec.{eqb}
use lib.Ieee.{Float}
use lib.ListN.{length, take, drop, length-append, length-drop}
use lib.Seq.{take_at, drop_at, drop-drop}
use Rattle.rows.specs.Lent.{rest_lent, rest_returned}
use Rattle.ranges.specs.Ranges.{Range, readable_of}
use Rattle.ranges.specs.Ascending.{Ascending}
use Rattle.memory.specs.Memory.{read_of}
use Rattle.memory.proofs.Bytes.{length_read}
use Rattle.memory.proofs.ByAddress.{read_cut, readable_cut}
use Rattle.across.specs.Lengths.{frame_bytes}
use Rattle.across.proofs.Near.{read_near}
use Rattle.sound.specs.Sound.{pcm_of}
use Rattle.sound.specs.Perform.{four_wide, wide_le, length_pcm}
use Rattle.sound.proofs.Joined.{pcm_join}

-- ---- a frame

wide_some : (w : ℕ) → eqb w 2 || eqb w 4 ≡ true → 0 < w
wide_some w h = by_width (eqb w 2) refl where
  by_width : (b : Bool) → eqb w 2 ≡ b → 0 < w
  by_width true e = omega (arith, eqb-true w 2 e)
  by_width false e = omega (arith, four_wide h (eqb-false w 2 e))

pub frame_some : (w ch c : ℕ) → eqb w 2 || eqb w 4 ≡ true → c < ch → 0 < w * ch
frame_some w ch c h l =
    let one : 1 ≤ w = wide_some w h in
    let some : 1 ≤ ch = omega arith in
    mul-le-mul one some

pub frame_le : (w ch : ℕ) → eqb w 2 || eqb w 4 ≡ true → ch ≤ 6 → w * ch ≤ frame_bytes
frame_le w ch h l = mul-le-mul (wide_le w h) l

-- ---- frames

-- what is asked: frames of a width that can be read, and room for a sample of each
pub record FramesAsked (width channels c n addr : ℕ) (rs : List Range) (m : List ℕ) (out : List Float) : Type 0 where
  pub wide : eqb width 2 || eqb width 4 ≡ true
  pub channel : c < channels
  pub fits : n ≤ length out
  pub memory : Ascending (length m) 0 rs
  pub reads : readable_of rs addr (n * (width * channels)) ≡ true

-- the first `done` of n frames are made
pub record Reached (width channels c n addr : ℕ) (rs : List Range) (m : List ℕ) (out₀ out : List Float) (done : ℕ) : Type 0 where
  pub asked : FramesAsked width channels c n addr rs m out₀
  pub below : done ≤ n
  pub made : out ≡ pcm_of width channels c (read_of rs m addr (done * (width * channels))) done ++ drop done out₀

module _ {width channels c n addr : ℕ} {rs : List Range} {m : List ℕ} {out₀ : List Float} where
  -- the reads of the first k frames and of the j after them succeed
  pub frames_cut : FramesAsked width channels c n addr rs m out₀ → (k j : ℕ) → k + j ≡ n
      → (readable_of rs addr (k * (width * channels)) ≡ true)
      × (readable_of rs (addr + k * (width * channels)) (j * (width * channels)) ≡ true)
  frames_cut f k j e =
      let frame = width * channels in
      let whole : n * frame ≡ k * frame + j * frame = (λ i. sym e i * frame) ∙ add-mul k j frame in
      readable_cut f.memory addr (k * frame) (j * frame) (subst (λ (l : ℕ). readable_of rs addr l ≡ true) whole f.reads)

  -- and the first k and those j are k + j
  frames_on_lem : FramesAsked width channels c n addr rs m out₀ → (k j : ℕ) → k + j ≤ n
      → pcm_of width channels c (read_of rs m addr (k * (width * channels))) k
      ++ pcm_of width channels c (read_of rs m (addr + k * (width * channels)) (j * (width * channels))) j
      ≡ pcm_of width channels c (read_of rs m addr ((k + j) * (width * channels))) (k + j)
  frames_on_lem f k j l =
      let frame = width * channels in
      let first = read_of rs m addr (k * frame) in
      let second = read_of rs m (addr + k * frame) (j * frame) in
      let whole = add-mul k j frame in
      let reads = subst (λ (x : ℕ). readable_of rs addr x ≡ true) whole (frames_cut f (k + j) (n - (k + j)) (omega arith)).0 in
      let long = length_read m rs addr (k * frame) f.memory (frames_cut f k (n - k) (omega arith)).0 in
      sym (pcm_join width channels c f.wide f.channel first second k j long)
      ∙ ap (λ (d : List ℕ). pcm_of width channels c d (k + j))
      (sym (read_cut m f.memory addr (k * frame) (j * frame) reads) ∙ ap (read_of rs m addr) (sym whole))

  pub reached_none : FramesAsked width channels c n addr rs m out₀ → Reached width channels c n addr rs m out₀ out₀ 0
  unfolding pcm_of
  reached_none f = record { asked = f; below = omega arith; made = refl }

  module _ {out : List Float} {done : ℕ} (r : Reached width channels c n addr rs m out₀ out done) where
    so_far : List Float
    so_far = pcm_of width channels c (read_of rs m addr (done * (width * channels))) done

    front : length so_far ≡ done
    unfolding so_far
    front = length_pcm width channels c (read_of rs m addr (done * (width * channels))) done

    pub reached_length : length out ≡ length out₀
    unfolding so_far
    reached_length = rw (r.made, length-append, front, length-drop) (omega (arith, r.below, r.asked.fits))

    pub reached_inside : done ≤ length out
    reached_inside = omega (arith, reached_length, r.below, r.asked.fits)

    -- what is lent of the row has room for the frames that are left
    pub reached_room : n - done ≤ length (take (length out - done) (drop done out))
    reached_room = rw (rest_lent out done reached_inside, length-drop) (omega (arith, reached_length, r.asked.fits))

    -- the next frame begins below 2^63
    pub reached_near : done < n → addr + done * (width * channels) < 2 ^ 63
    reached_near l =
        let frame = width * channels in
        let some = frame_some width channels c r.asked.wide r.asked.channel in
        let more : (done + 1) * frame ≤ n * frame = mul-le-mul_right frame (omega arith) in
        let next = add-mul done 1 frame in
        let near = read_near r.asked.memory addr (n * frame) (omega arith) r.asked.reads in
        omega arith

    pub reached_left : readable_of rs (addr + done * (width * channels)) ((n - done) * (width * channels)) ≡ true
    reached_left = (frames_cut r.asked done (n - done) (omega (arith, r.below))).1

    -- k frames more, into what is lent of the row from `done` on
    pub reached_more : {k : ℕ} {back : List Float} → k ≤ n - done
        → back ≡ pcm_of width channels c (read_of rs m (addr + done * (width * channels)) (k * (width * channels))) k
        ++ drop k (take (length out - done) (drop done out))
        → Reached width channels c n addr rs m out₀ (take done out ++ (back ++ drop (length out - done) (drop done out))) (done + k)
    unfolding so_far
    reached_more {k} {back} l e =
        let next = pcm_of width channels c (read_of rs m (addr + done * (width * channels)) (k * (width * channels))) k in
        let before : take done out ≡ so_far = ap (take done) r.made ∙ take_at so_far (drop done out₀) done front in
        let behind : drop done out ≡ drop done out₀ = ap (drop done) r.made ∙ drop_at so_far (drop done out₀) done front in
        let rest : drop k (take (length out - done) (drop done out)) ≡ drop (done + k) out₀ =
        ap (drop k) (rest_lent out done reached_inside ∙ behind) ∙ drop-drop k done out₀ in
        record {
          asked = r.asked;
          below = omega (arith, r.below);
          made = rest_returned out done reached_inside back
              ∙ (λ i. before i ++ (e ∙ ap (λ (x : List Float). next ++ x) rest) i)
              ∙ sym (append_assoc so_far next (drop (done + k) out₀))
              ∙ ap (λ (x : List Float). x ++ drop (done + k) out₀) (frames_on_lem r.asked done k (omega (arith, r.below)));
        }

    pub reached_all : n ≤ done → out ≡ pcm_of width channels c (read_of rs m addr (n * (width * channels))) n ++ drop n out₀
    reached_all h =
        let e : done ≡ n = omega (arith, r.below) in
        r.made ∙ (λ i. pcm_of width channels c (read_of rs m addr (e i * (width * channels))) (e i) ++ drop (e i) out₀)
