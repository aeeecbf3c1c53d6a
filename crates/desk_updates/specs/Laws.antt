-- Rows of a kind keep their number, so that they come back into their places. Assumes nothing.
use Rattle.std.specs.Prelude.{◌≡◌, List, ℕ, ◌+◌, ◌*◌, ◌≤◌, length, Float}
use Rattle.std.proofs.Common.{ap, ◌∙◌}
use Rattle.rows.specs.Rows.{part, put, length_part}
use Rattle.rows.specs.Lent.{lent, returned, part_cut, returned_is}
use Rattle.desk.specs.Channels.{channels_of, length_channels}
use Rattle.desk.specs.Sinks.{SinksSized, sink_rows, sinks_of}
use Rattle.desk.specs.SinkLaws.{sinks_sized}
use Rattle.desk_mixes.specs.Mixes.{MixesSized, mix_rows, mixes_of}
use Rattle.desk_mixes.specs.MixLaws.{mixes_sized}
use Rattle.splitters.specs.Destinations.{Left, left}
use Rattle.splitters.specs.Section.{Sized, splitters_of}
use Rattle.splitters.specs.Laws.{sized_kept}
use Rattle.desk_updates.specs.DeskUpdate.{resources_at, mix_rows_at, sink_rows_at, list_rows_at}

-- ---- channel resources

module _ (d : List ℕ) (n c : ℕ) (floats : List Float) (fits : c + n * 48 ≤ length floats) where
  pub length_resources : length (resources_at d n c floats) ≡ n * 48
  length_resources = length_channels d n (part (n * 48) c floats) (length_part (n * 48) c floats fits)

  pub resources_back : {r : List Float} → r ≡ channels_of d n (lent floats c (n * 48)) → returned floats c (n * 48) r ≡ put floats c (resources_at d n c floats)
  resources_back e = returned_is floats c (n * 48) fits (e ∙ ap (channels_of d n) (part_cut floats c (n * 48))) length_resources

-- ---- sinks

module _ (d : List ℕ) (n a : ℕ) (words : List ℕ) (c : ℕ) (floats : List Float) (few : n ≤ 8)
    (fits : a + n * 10 ≤ length words) (fits_f : c + n * 4 ≤ length floats) where
  pub sinks_long : SinksSized n (sink_rows_at d n a words c floats).words (sink_rows_at d n a words c floats).floats
  sinks_long =
      sinks_sized n d (sink_rows (part (n * 10) a words) (part (n * 4) c floats))
      (record { most = few; words_long = length_part (n * 10) a words fits; floats_long = length_part (n * 4) c floats fits_f })

  pub sink_words_back : {r : List ℕ} → r ≡ (sinks_of d n (sink_rows (lent words a (n * 10)) (lent floats c (n * 4)))).words
      → returned words a (n * 10) r ≡ put words a (sink_rows_at d n a words c floats).words
  sink_words_back e =
      returned_is words a (n * 10) fits (e ∙ (λ i. (sinks_of d n (sink_rows (part_cut words a (n * 10) i) (part_cut floats c (n * 4) i))).words)) sinks_long.words_long

  pub sink_floats_back : {r : List Float} → r ≡ (sinks_of d n (sink_rows (lent words a (n * 10)) (lent floats c (n * 4)))).floats
      → returned floats c (n * 4) r ≡ put floats c (sink_rows_at d n a words c floats).floats
  sink_floats_back e =
      returned_is floats c (n * 4) fits_f (e ∙ (λ i. (sinks_of d n (sink_rows (part_cut words a (n * 10) i) (part_cut floats c (n * 4) i))).floats)) sinks_long.floats_long

-- ---- mixes

module _ (revision : ℕ) (d : List ℕ) (n a : ℕ) (words : List ℕ) (c : ℕ) (floats : List Float)
    (fits : a + n * 5 ≤ length words) (fits_f : c + n * 577 ≤ length floats) (s : MixesSized n (part (n * 5) a words) (part (n * 577) c floats)) where
  pub mixes_long : MixesSized n (mix_rows_at revision d n a words c floats).words (mix_rows_at revision d n a words c floats).floats
  mixes_long = mixes_sized revision d n (mix_rows (part (n * 5) a words) (part (n * 577) c floats)) s

  -- what is lent is just as whole
  pub mixes_lent_lem : MixesSized n (lent words a (n * 5)) (lent floats c (n * 577))
  mixes_lent_lem = rw (part_cut words a (n * 5), part_cut floats c (n * 577)) s

  pub mix_words_back : {r : List ℕ} → r ≡ (mixes_of revision d n (mix_rows (lent words a (n * 5)) (lent floats c (n * 577)))).words
      → returned words a (n * 5) r ≡ put words a (mix_rows_at revision d n a words c floats).words
  mix_words_back e =
      returned_is words a (n * 5) fits (e ∙ (λ i. (mixes_of revision d n (mix_rows (part_cut words a (n * 5) i) (part_cut floats c (n * 577) i))).words)) mixes_long.words_long

  pub mix_floats_back : {r : List Float} → r ≡ (mixes_of revision d n (mix_rows (lent words a (n * 5)) (lent floats c (n * 577)))).floats
      → returned floats c (n * 577) r ≡ put floats c (mix_rows_at revision d n a words c floats).floats
  mix_floats_back e =
      returned_is floats c (n * 577) fits_f (e ∙ (λ i. (mixes_of revision d n (mix_rows (part_cut words a (n * 5) i) (part_cut floats c (n * 577) i))).floats)) mixes_long.floats_long

-- ---- splitters and destinations

module _ (d : List ℕ) (ns nd a : ℕ) (words : List ℕ) (c : ℕ) (floats : List Float) (few : ns ≤ 32) (some : nd ≤ 128)
    (fits : a + (ns * 129 + nd * 2) ≤ length words) (fits_f : c + nd * 48 ≤ length floats) where
  pub lists_long : Sized ns nd (list_rows_at d ns nd a words c floats).words (list_rows_at d ns nd a words c floats).floats
  lists_long =
      sized_kept ns nd d (part (ns * 129 + nd * 2) a words) (part (nd * 48) c floats)
      (record {
        splitters = few;
        destinations = some;
        words_long = length_part (ns * 129 + nd * 2) a words fits;
        floats_long = length_part (nd * 48) c floats fits_f;
      })

  module _ {at : ℕ} {r : List ℕ} {q : List Float}
      (e : left at r q ≡ splitters_of ns nd d (lent words a (ns * 129 + nd * 2)) (lent floats c (nd * 48))) where
    whole : left at r q ≡ list_rows_at d ns nd a words c floats
    whole = e ∙ (λ i. splitters_of ns nd d (part_cut words a (ns * 129 + nd * 2) i) (part_cut floats c (nd * 48) i))

    pub list_at_back : at ≡ (list_rows_at d ns nd a words c floats).at
    list_at_back = ap (λ (l : Left). l.at) whole

    pub list_words_back : returned words a (ns * 129 + nd * 2) r ≡ put words a (list_rows_at d ns nd a words c floats).words
    list_words_back = returned_is words a (ns * 129 + nd * 2) fits (ap (λ (l : Left). l.words) whole) lists_long.words_long

    pub list_floats_back : returned floats c (nd * 48) q ≡ put floats c (list_rows_at d ns nd a words c floats).floats
    list_floats_back = returned_is floats c (nd * 48) fits_f (ap (λ (l : Left). l.floats) whole) lists_long.floats_long
