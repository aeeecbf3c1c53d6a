-- A voice's rows, and the parts of the state that its sends are lent. Assumes nothing.
use Rattle.std.specs.Prelude.{◌≡◌, List, ℕ, ◌+◌, ◌-◌, ◌*◌, ◌≤◌, length, take, drop, Float}
use Rattle.std.proofs.Common.{◌∙◌, mul-le-mul, arith, length-take-le}
use Rattle.std.proofs.Math.Path.{ap}
use Rattle.rows.specs.Lent.{part_between}
use Rattle.params.specs.declared.params.Params.{Params}
use Rattle.params.specs.Sizes.{Allowed}
use Rattle.state.specs.declared.Places.{Places}
use Rattle.state.specs.State.{At, mixes_of, mix_words, mix_words_in, list_words, list_words_in, resource_floats, destination_floats}
use Rattle.desk_rows.specs.DeskRows.{Mixes, Lists}
use Rattle.voice_sends.specs.Sending.{Rowed, ramped_rows, Passing, sends_of}
use Rattle.sending.specs.Sending.{route_out, sent_at, sent_back, routed, routed_floats}

-- ---- the voice's rows, at the front of what is lent

module _ {p : Params} (allowed : Allowed p) {channels : ℕ} (few : channels ≤ 6) where
  pub rows_small : channels * p.sample_count ≤ 1536
  rows_small = mul-le-mul few allowed.samples

  pub front_rowed : 1 ≤ channels → (out : List Float) → channels * p.sample_count ≤ length out
      → Rowed p.sample_count channels (take (channels * p.sample_count) out)
  front_rowed one out h = record {
    some = allowed.some_samples;
    short = allowed.samples;
    one = one;
    few = few;
    inside = omega (arith, length-take-le (channels * p.sample_count) out h);
  }

-- ---- the rows of mixes, and those of splitters with destinations, lent from one place to another

abbrev pub mixes_lent : Places → List ℕ → List ℕ
mixes_lent at words = take (at.sink_words - at.mix_words) (drop at.mix_words words)

abbrev pub lists_lent : Places → List ℕ → List ℕ
lists_lent at words = take (at.words - at.list_words) (drop at.list_words words)

module _ {p : Params} {at : Places} (w : At p at) (words : List ℕ) where
  mixes_lent_lem : mixes_lent at words ≡ mix_words_in p words
  mixes_lent_lem = part_between words (mix_words p) (mixes_of p * 5) w.mix_words_lem w.sink_words_lem

  lists_lent_lem : lists_lent at words ≡ list_words_in p words
  lists_lent_lem = part_between words (list_words p) (p.splitters * 129 + p.splitter_destinations * 2) w.list_words_lem w.words

  pub mixes_whole_lem : Mixes (mixes_of p) (mix_words_in p words) → Mixes at.mixes (mixes_lent at words)
  mixes_whole_lem m = rw (mixes_lent_lem, w.mixes) m

  pub lists_whole_lem : {ns nd : ℕ} → Lists ns nd (list_words_in p words) → Lists ns nd (lists_lent at words)
  lists_whole_lem l = rw lists_lent_lem l

  -- ---- sends by what is lent are the voice's sends in the state

  module _ (n channels : ℕ) (ids : List ℕ) (mix splitter : ℕ) (from to : Float) (out floats buffers : List Float) {st : Passing}
      (e : st
      ≡ sent_back at.resource_floats at.destination_floats floats
      (sends_of n (ramped_rows from to n channels (take (channels * n) out)) channels ids mix splitter (mixes_lent at words) at.mixes (lists_lent at words)
      p.splitters p.splitter_destinations
      (sent_at p.voices at.resource_floats p.splitter_destinations at.destination_floats floats buffers))) where
    in_places : st
        ≡ sent_back (resource_floats p) (destination_floats p) floats (routed p n channels ids mix splitter (route_out from to n channels out) words floats buffers)
    unfolding route_out routed
    in_places =
        e
        ∙ (λ i. sent_back (w.resource_floats_lem i) (w.destination_floats_lem i) floats
        (sends_of n (route_out from to n channels out) channels ids mix splitter (mixes_lent_lem i) (w.mixes i) (lists_lent_lem i) p.splitters
        p.splitter_destinations (sent_at p.voices (w.resource_floats_lem i) p.splitter_destinations (w.destination_floats_lem i) floats buffers)))

    pub routed_is : (st.buffers ≡ (routed p n channels ids mix splitter (route_out from to n channels out) words floats buffers).buffers)
        × (st.gains ≡ routed_floats p (routed p n channels ids mix splitter (route_out from to n channels out) words floats buffers) floats)
    unfolding routed_floats
    routed_is = (ap (λ (z : Passing). z.buffers) in_places, ap (λ (z : Passing). z.gains) in_places)
