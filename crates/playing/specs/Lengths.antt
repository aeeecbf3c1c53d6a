-- The outputs keep their length, and the history has 18. Assumes nothing.
use Rattle.std.specs.Prelude.{ℕ, zero, suc, ◌+◌, ◌*◌, ◌≤◌, ◌<◌, List, ◌≡◌, ℤ, Float, length}
use Rattle.std.proofs.Common.{le_refl, arith, ap, ◌∙◌, length-append}
use Rattle.std.proofs.Math.Path.{refl}
use Rattle.std.proofs.lemmas.List.{length-replicate}
use Rattle.rows.specs.Rows.{put, length_part, length_put}
use Rattle.rows.specs.Folds.{up_to, row_end}
use Rattle.resample.specs.Laws.{length_resampled}
use Rattle.ranges.specs.Ascending.{Ascending}
use Rattle.plan.specs.Source.{Source}
use Rattle.plan.specs.declared.Act.{Act}
use Rattle.plan.specs.Fits.{made_le, Fits, fits_none, fits_more}
use Rattle.sound.specs.Sound.{Deck, table_of, perform, perform_all, row_of}
use Rattle.sound.specs.Perform.{fresh}
use Rattle.sound.specs.Channel.{perform_after, perform_count}
use Rattle.playing.specs.Playing.{Material, deck_of, channel_row, channel_out, tail_of, played_out, played_history}

-- rows of one width, put one behind the other
rows_long : (row : ℕ → List Float) (w n : ℕ) (s : List Float) → ((k : ℕ) → k < n → length (row k) ≡ w) → n * w ≤ length s
    → (k : ℕ) → k ≤ n → length (up_to (λ c o. put o (c * w) (row c)) k s) ≡ length s
unfolding up_to
rows_long row w n s wide l zero h = refl
rows_long row w n s wide l (suc k) h =
    let ih = rows_long row w n s wide l k (omega arith) in
    length_put (up_to (λ c o. put o (c * w) (row c)) k s) (k * w) (row k) (omega (arith, ih, wide k h, row_end 0 w k n h)) ∙ ih

pub length_out : (w : Material) (out : List Float) → w.source.channels * w.count ≤ length out → length (played_out w out) ≡ length out
unfolding played_out channel_out
length_out w out l =
    let n = w.source.channels in
    rows_long (channel_out w) w.count n out (λ k _. length_resampled (channel_row w k) w.ratio w.fraction w.count) l n (le_refl n)

-- ---- the history

-- acts that fit make as many samples as the plan says
all_long : {s : Source} {count made done : ℕ} {acts : List Act} (m : List ℕ) (table : List ℤ) (c : ℕ) (k : Deck) → Fits s count made acts done → Ascending (length m) 0 s.ranges
    → length k.out ≡ made → length (perform_all s m table c acts k).out ≡ done
unfolding perform_all
all_long m table c k fits_none z e = e
all_long {s = s} m table c k (fits_more {a = a} h r f) z e =
    all_long m table c (perform s m table c a k) f z
    (ap (λ (d : Deck). length d.out) (perform_after s m table c a k.adpcm k.out)
    ∙ length-append k.out (perform s m table c a (fresh k.adpcm)).out
    ∙ (λ i. e i + perform_count s m table c a k.adpcm z r i))

-- and no more than were asked for
fits_upto : {s : Source} {count made done : ℕ} {acts : List Act} → Fits s count made acts done → made ≤ count → done ≤ count
fits_upto fits_none l = l
fits_upto (fits_more {a = a} h r f) l = fits_upto f (omega (arith, made_le a.decode))

module _ (w : Material) (eighteen : length w.sound.history.samples ≡ 18) (six : w.source.channels ≤ 6) (laid : Ascending (length w.memory) 0 w.source.ranges)
    (fits : Fits w.source w.needed 0 w.plan.acts w.plan.done) where
  pub length_row : (c : ℕ) → c < 6 → length (channel_row w c) ≡ 3 + w.needed
  unfolding channel_row deck_of row_of
  length_row c h =
      let three = length_part 3 (c * 3) w.sound.history.samples (omega arith) in
      let made = all_long w.memory (table_of w.plan.table w.source w.memory) c (fresh w.sound.adpcm) fits laid refl in
      simp (length-append, length-replicate) (omega (arith, three, made, fits_upto fits (omega arith)))

  pub length_history : length (played_history w) ≡ 18
  unfolding played_history
  length_history =
      let n = w.source.channels in
      rows_long (λ c. tail_of w.needed (channel_row w c)) 3 n w.sound.history.samples
      (λ k h. length_part 3 w.needed (channel_row w k) (omega (arith, length_row k (omega arith)))) (omega arith) n (le_refl n)
      ∙ eighteen
