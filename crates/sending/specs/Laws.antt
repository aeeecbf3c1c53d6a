-- Laws of a voice's sends on the state's lists: lengths that they keep, and floats that they leave alone. Assumes nothing.
use Rattle.std.specs.Prelude.{◌≡◌, List, ℕ, ◌+◌, ◌*◌, ◌≤◌, length, Float}
use Rattle.std.proofs.Common.{◌∙◌, arith}
use Rattle.rows.specs.Rows.{part, put, length_part, length_put, part_put_before}
use Rattle.params.specs.declared.params.Params.{Params}
use Rattle.state.specs.State.{mixes_of, mix_words_in, list_words_in, resource_floats, resources_in, destination_floats, destination_floats_in, floats_of}
use Rattle.voice_sends.specs.Sending.{Ids, Sent, sent_of}
use Rattle.voice_sends.specs.Sizes.{SameSizes, sends_keep}
use Rattle.sending.specs.Sending.{routed, routed_floats}

-- gains that fit their places
pub record GainsSized (p : Params) (s : Sent) : Type 0 where
  pub resources : length s.resources ≡ p.voices * 48
  pub destinations : length s.destinations ≡ p.splitter_destinations * 48

-- ---- what a voice's sends leave

module _ (p : Params) (n channels : ℕ) {ids : List ℕ} (mix splitter : ℕ) (o : List Float) (words : List ℕ) (floats buffers : List Float)
    (own : Ids p.voices ids) (few : channels ≤ 6) (long : length floats ≡ floats_of p) where
  resources_long : length (resources_in p floats) ≡ p.voices * 48
  resources_long = length_part (p.voices * 48) (resource_floats p) floats (omega arith)

  destinations_long : length (destination_floats_in p floats) ≡ p.splitter_destinations * 48
  destinations_long = length_part (p.splitter_destinations * 48) (destination_floats p) floats (omega arith)

  sends_same : SameSizes (routed p n channels ids mix splitter o words floats buffers) (sent_of buffers (resources_in p floats) (destination_floats_in p floats))
  unfolding routed
  sends_same =
      sends_keep own n o channels mix splitter (mix_words_in p words) (mixes_of p) (list_words_in p words) p.splitters p.splitter_destinations
      (sent_of buffers (resources_in p floats) (destination_floats_in p floats)) few resources_long destinations_long

  pub routed_sized : GainsSized p (routed p n channels ids mix splitter o words floats buffers)
  routed_sized = record { resources = sends_same.resources ∙ resources_long; destinations = sends_same.destinations ∙ destinations_long }

  pub length_routed_buffers : length (routed p n channels ids mix splitter o words floats buffers).buffers ≡ length buffers
  length_routed_buffers = sends_same.buffers

-- ---- the floats with it

module _ (p : Params) {s : Sent} (sized : GainsSized p s) (floats : List Float) (long : length floats ≡ floats_of p) where
  resources_fit : resource_floats p + length s.resources ≤ length floats
  resources_fit = rw (sized.resources, long) (omega arith)

  length_first : length (put floats (resource_floats p) s.resources) ≡ length floats
  length_first = length_put floats (resource_floats p) s.resources resources_fit

  destinations_fit : destination_floats p + length s.destinations ≤ length (put floats (resource_floats p) s.resources)
  destinations_fit = rw (length_first, sized.destinations, long) (omega arith)

  pub length_routed : length (routed_floats p s floats) ≡ length floats
  unfolding routed_floats
  length_routed = length_put (put floats (resource_floats p) s.resources) (destination_floats p) s.destinations destinations_fit ∙ length_first

  -- whatever stands before the gains, such as one voice's row
  pub routed_before : (w b : ℕ) → b + w ≤ resource_floats p → part w b (routed_floats p s floats) ≡ part w b floats
  unfolding routed_floats
  routed_before w b h =
      part_put_before (put floats (resource_floats p) s.resources) (destination_floats p) s.destinations destinations_fit w b (omega arith)
      ∙ part_put_before floats (resource_floats p) s.resources resources_fit w b h

  -- the voices' rows
  pub routed_voices : part (p.voices * 4) 0 (routed_floats p s floats) ≡ part (p.voices * 4) 0 floats
  routed_voices = routed_before (p.voices * 4) 0 (omega arith)
