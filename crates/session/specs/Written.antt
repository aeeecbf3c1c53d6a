-- Laws of text that is written piece by piece. Assumes nothing.
use Rattle.std.specs.Prelude.{◌≡◌, refl, List, [], ◌++◌, ℕ, suc, ◌+◌, ◌*◌, ◌≤◌, ◌<◌, length}
use Rattle.std.proofs.Common.{ap, sym, ◌∙◌, suc-mul, mul-le-mul_right, arith, length-append}
use Rattle.rows.specs.Rows.{put, part, length_put, put_part, put_put}
use Rattle.rows.specs.Tables.{joined, joined_more}
use Rattle.session.specs.Text.{Text, text, append}

-- as a writer finds it: u is s with l put at a place, and r the place behind it
pub appended : (s : List ℕ) (at : ℕ) (l : List ℕ) {u : List ℕ} {r : ℕ} → u ≡ put s at l → r ≡ at + length l → text u r ≡ append (text s at) l
unfolding append
appended s at l e q = λ i. text (e i) (q i)

pub end_is : (t : Text) (l : List ℕ) {u : List ℕ} {r : ℕ} → text u r ≡ append t l → r ≡ t.end + length l
unfolding append
end_is t l e = ap (λ (x : Text). x.end) e

pub append_none : (t : Text) → t.end ≤ length t.bytes → t ≡ append t []
unfolding append part
append_none t h = let e : t.end ≡ t.end + 0 = omega arith in λ i. text (sym (put_part 0 t.end t.bytes (omega arith)) i) (e i)

pub length_append_text : (t : Text) (l : List ℕ) → t.end + length l ≤ length t.bytes → length (append t l).bytes ≡ length t.bytes
unfolding append
length_append_text t l h = length_put t.bytes t.end l h

-- a second piece behind the first
pub append_both : (t : Text) (a b : List ℕ) → t.end + length a + length b ≤ length t.bytes → append (append t a) b ≡ append t (a ++ b)
unfolding append
append_both t a b h =
    let e : t.end + length a + length b ≡ t.end + length (a ++ b) = rw length-append (omega arith) in
    λ i. text (put_put t.bytes t.end a b h i) (e i)

-- the same, as a writer finds it
pub append_two : (t : Text) (a b : List ℕ) {u v : List ℕ} {r q : ℕ} → t.end + length a + length b ≤ length t.bytes
    → text u r ≡ append t a → text v q ≡ append (text u r) b → text v q ≡ append t (a ++ b)
append_two t a b h e₁ e₂ = e₂ ∙ ap (λ (x : Text). append x b) e₁ ∙ append_both t a b h

-- ---- a loop that writes pieces f 0, f 1, .., each at most w bytes: after k of n turns

pub record Writing (t : Text) (n w : ℕ) (f : ℕ → List ℕ) (s : List ℕ) (end k : ℕ) : Type 0 where
  pub count : k ≤ n
  pub size : length s ≡ length t.bytes
  pub near : end ≤ t.end + k * w
  pub same : text s end ≡ append t (joined k f)

pub write_begin : (t : Text) (n w : ℕ) (f : ℕ → List ℕ) → t.end ≤ length t.bytes → Writing t n w f t.bytes t.end 0
unfolding joined
write_begin t n w f h = record { count = omega arith; size = refl; near = omega arith; same = append_none t h }

module _ {t : Text} {n w : ℕ} {f : ℕ → List ℕ} {s : List ℕ} {end k : ℕ} (p : Writing t n w f s end k) where
  -- there is room for piece k
  pub write_room : k < n → t.end + n * w ≤ length t.bytes → end + w ≤ length s
  write_room h room =
      let e : suc k * w ≤ n * w = mul-le-mul_right w h in
      omega (arith, suc-mul k w, p.near, p.size)

  pub write_more : {u : List ℕ} {r : ℕ} → k < n → t.end + n * w ≤ length t.bytes → length (f k) ≤ w
      → text u r ≡ append (text s end) (f k) → Writing t n w f u r (k + 1)
  write_more {u} {r} h room small e =
      let fits : end + w ≤ length s = write_room h room in
      let at : end ≡ t.end + length (joined k f) = end_is t (joined k f) p.same in
      let next : r ≡ end + length (f k) = end_is (text s end) (f k) e in
      let long : length u ≡ length s = ap (λ (x : Text). length x.bytes) e ∙ length_append_text (text s end) (f k) (omega arith) in
      let whole : text u r ≡ append t (joined k f ++ f k) =
      e ∙ ap (λ (x : Text). append x (f k)) p.same ∙ append_both t (joined k f) (f k) (omega (arith, p.size)) in
      record {
        count = omega arith;
        size = long ∙ p.size;
        near = omega (arith, suc-mul k w, p.near);
        same = whole ∙ ap (append t) (joined_more k f);
      }

  pub write_end : n ≤ k → text s end ≡ append t (joined n f)
  write_end h =
      let e : k ≡ n = omega (arith, p.count) in
      p.same ∙ ap (λ (m : ℕ). append t (joined m f)) e
