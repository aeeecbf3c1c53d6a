-- The rows of a kind as they are lent, and what is made of them. Assumes nothing.
use Rattle.std.specs.Prelude.{◌≡◌, refl, List, ◌++◌, ℕ, ◌+◌, ◌-◌, ◌*◌, Float, length, take, drop}
use Rattle.std.proofs.Common.{◌∙◌, arith}
use Rattle.rows.specs.Rows.{length_part}
use Rattle.rows.specs.Lent.{part_between}
use Rattle.params.specs.declared.params.Params.{Params}
use Rattle.state.specs.declared.Places.{Places}
use Rattle.state.specs.State.{At, mixes_of, mix_words, sink_words, list_words, mix_floats, sink_floats, destination_floats, mix_words_in, mix_floats_in, sink_words_in, sink_floats_in, list_words_in, destination_floats_in}
use Rattle.desk_rows.specs.declared.Desk.{Desk}
use Rattle.desk_rows.specs.DeskRows.{Mixes, Lists}
use Rattle.desk_order.specs.declared.listed.MixOrder.{MixOrder}
use Rattle.desk_order.specs.DeskOrder.{mix_order}
use Rattle.desk_order.specs.Listed.{listed_of}
use Rattle.mixing.specs.Mixing.{mixed_down, run_mixes, final_volume}
use Rattle.mixing.specs.Laws.{length_mixed_down}
use Rattle.frames.specs.Frames.{Sinks, frames_of}
use Rattle.desk_render.specs.DeskRender.{DeskOf, Mixable, mixed_by, order_by, frames_by}

-- ---- the words of mixes, splitters and destinations

module _ {p : Params} {at : Places} (e : At p at) (words : List ℕ) where
  pub mixes_is : take (at.sink_words - at.mix_words) (drop at.mix_words words) ≡ mix_words_in p words
  mixes_is = part_between words (mix_words p) (mixes_of p * 5) e.mix_words_lem e.sink_words_lem

  pub lists_is : take (at.words - at.list_words) (drop at.list_words words) ≡ list_words_in p words
  lists_is = part_between words (list_words p) (p.splitters * 129 + p.splitter_destinations * 2) e.list_words_lem e.words

  pub mixes_lent_lem : Mixes (mixes_of p) (mix_words_in p words) → Mixes at.mixes (take (at.sink_words - at.mix_words) (drop at.mix_words words))
  mixes_lent_lem h = rw (mixes_is, e.mixes) h

  pub lists_lent_lem : Lists p.splitters p.splitter_destinations (list_words_in p words)
      → Lists p.splitters p.splitter_destinations (take (at.words - at.list_words) (drop at.list_words words))
  lists_lent_lem h = rw lists_is h

  -- the order of the rows that stand at the state's places
  pub ordered_rows : {r : MixOrder}
      → r ≡ listed_of (mix_order at.mixes p.splitters p.splitter_destinations (take (at.sink_words - at.mix_words) (drop at.mix_words words))
      (take (at.words - at.list_words) (drop at.list_words words)))
      → r ≡ listed_of (order_by p words)
  unfolding order_by
  ordered_rows q = q ∙ (λ i. listed_of (mix_order (e.mixes i) p.splitters p.splitter_destinations (mixes_is i) (lists_is i)))

-- the order of a desk
pub ordered : {p : Params} {words : List ℕ} {desk : Desk} → DeskOf p words desk → {r : MixOrder}
    → r ≡ listed_of (mix_order desk.mixes.n desk.lists.ns desk.lists.nd desk.mixes.words.now desk.lists.words.now)
    → r ≡ listed_of (order_by p words)
unfolding order_by
ordered d q = q ∙ (λ i. listed_of (mix_order (d.mixes i) (d.splitters i) (d.destinations i) (d.mix_words i) (d.list_words i)))

module _ {p : Params} {at : Places} (e : At p at) {words : List ℕ} {floats : List Float} (h : Mixable p words floats) where
  volumes_is : take (at.sink_floats - at.mix_floats) (drop at.mix_floats floats) ≡ mix_floats_in p floats
  volumes_is = part_between floats (mix_floats p) (mixes_of p * 577) e.mix_floats_lem e.sink_floats_lem

  destinations_is : take (at.floats - at.destination_floats) (drop at.destination_floats floats) ≡ destination_floats_in p floats
  destinations_is = part_between floats (destination_floats p) (p.splitter_destinations * 48) e.destination_floats_lem e.floats

  sinks_is : take (at.list_words - at.sink_words) (drop at.sink_words words) ≡ sink_words_in p words
  sinks_is = part_between words (sink_words p) (p.sinks * 10) e.sink_words_lem e.list_words_lem

  factors_is : take (at.destination_floats - at.sink_floats) (drop at.sink_floats floats) ≡ sink_floats_in p floats
  factors_is = part_between floats (sink_floats p) (p.sinks * 4) e.sink_floats_lem e.destination_floats_lem

  -- ---- the sub_mixes

  pub volumes_long : length (take (at.sink_floats - at.mix_floats) (drop at.mix_floats floats)) ≡ at.mixes * 577
  volumes_long = rw (volumes_is, e.mixes) (length_part (mixes_of p * 577) (mix_floats p) floats (omega (arith, h.floats_long)))

  pub destinations_long : length (take (at.floats - at.destination_floats) (drop at.destination_floats floats)) ≡ p.splitter_destinations * 48
  destinations_long = rw destinations_is (length_part (p.splitter_destinations * 48) (destination_floats p) floats (omega (arith, h.floats_long)))

  pub mixed : {desk : Desk} → DeskOf p words desk → {n : ℕ} → n ≡ p.sample_count → (buffers : List Float) {b : List Float}
      → b ≡ mixed_down n desk.mixes.n desk.mixes.words.now (take (at.sink_floats - at.mix_floats) (drop at.mix_floats floats)) desk.lists.ns desk.lists.nd
      desk.lists.words.now (take (at.floats - at.destination_floats) (drop at.destination_floats floats)) buffers
      → b ≡ mixed_by p words floats buffers
  unfolding mixed_by
  mixed d s buffers q =
      q
      ∙ (λ i.
      mixed_down (s i) (d.mixes i) (d.mix_words i) (volumes_is i) (d.splitters i) (d.destinations i) (d.list_words i) (destinations_is i) buffers)

  -- the same of the rows that stand at the state's places
  pub mixed_rows : (buffers : List Float) {b : List Float}
      → b ≡ mixed_down p.sample_count at.mixes (take (at.sink_words - at.mix_words) (drop at.mix_words words))
      (take (at.sink_floats - at.mix_floats) (drop at.mix_floats floats)) p.splitters p.splitter_destinations (take (at.words - at.list_words) (drop at.list_words words))
      (take (at.floats - at.destination_floats) (drop at.destination_floats floats)) buffers
      → b ≡ mixed_by p words floats buffers
  unfolding mixed_by
  mixed_rows buffers q =
      q
      ∙ (λ i.
      mixed_down p.sample_count (e.mixes i) (mixes_is e words i) (volumes_is i) p.splitters p.splitter_destinations (lists_is e words i) (destinations_is i) buffers)

  -- ---- the frames

  pub sinks_lent : Sinks p.sinks (take (at.list_words - at.sink_words) (drop at.sink_words words)) (take (at.destination_floats - at.sink_floats) (drop at.sink_floats floats))
  sinks_lent = record {
    few = h.allowed.sinks;
    words_size = rw sinks_is (length_part (p.sinks * 10) (sink_words p) words (omega (arith, h.words_long)));
    floats_size = rw factors_is (length_part (p.sinks * 4) (sink_floats p) floats (omega (arith, h.floats_long)));
  }

  pub framed : (buffers rest : List Float) {b : List Float}
      → b ≡ frames_of buffers p.sample_count 0 (take (at.list_words - at.sink_words) (drop at.sink_words words))
      (take (at.destination_floats - at.sink_floats) (drop at.sink_floats floats)) p.sinks ++ rest
      → b ≡ frames_by p words floats buffers ++ rest
  unfolding frames_by
  framed buffers rest q = q ∙ (λ i. frames_of buffers p.sample_count 0 (sinks_is i) (factors_is i) p.sinks ++ rest)

-- the order is the one that `render_mixes` runs by
pub mixed_in_order : (p : Params) (words : List ℕ) (floats buffers : List Float)
    → mixed_by p words floats buffers
    ≡ final_volume p.sample_count (mix_words_in p words) (mix_floats_in p floats)
    (run_mixes p.sample_count (mixes_of p) (mix_words_in p words) (mix_floats_in p floats) p.splitters p.splitter_destinations (list_words_in p words)
    (destination_floats_in p floats) (order_by p words) buffers)
unfolding mixed_by mixed_down order_by
mixed_in_order p words floats buffers = refl

-- the mix buffers keep their length
pub length_mixed : (p : Params) (words : List ℕ) (floats buffers : List Float) → length (mixed_by p words floats buffers) ≡ length buffers
unfolding mixed_by
length_mixed p words floats buffers = length_mixed_down _ _ _ _ _ _ _ _ _
