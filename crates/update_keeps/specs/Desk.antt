-- `update_mixes` and `update_sinks` leave every mix's and every sink's row whole. Assumes nothing.
use Rattle.std.specs.Prelude.{◌≡◌, refl, List, ℕ, zero, suc, ◌+◌, ◌<◌}
use Rattle.std.proofs.Common.{ap, ◌∙◌, add-zero}
use Rattle.desk_rows.specs.DeskRows.{mix_buffers}
use Rattle.desk.specs.Sinks.{SinkRows, SinksSized, sinks_of}
use Rattle.desk.specs.SinkLaws.{SinkFlags, sinks_flags}
use Rattle.desk_mixes.specs.Mixes.{MixRows, MixesSized, counts_before, mixes_of}
use Rattle.desk_mixes.specs.MixLaws.{mixes_sized, mix_offset_is, mix_flags}
use Rattle.row_tests.specs.Tests.{sum}
use Rattle.row_tests.specs.Desk.{buffers_before, MixWhole, SinkWhole}

-- ---- mixes

-- the buffers of the mixes before, as `update_mixes` and as the test of wholeness sum them
counts_sum : (k : ℕ) (words : List ℕ) → counts_before k words ≡ buffers_before words k
unfolding counts_before sum
counts_sum zero words = refl
counts_sum (suc k) words = ap (λ (c : ℕ). c + mix_buffers words k) (counts_sum k words)

pub mixes_kept : (revision : ℕ) (d : List ℕ) (n : ℕ) (st : MixRows) → MixesSized n st.words st.floats
    → ((m : ℕ) → m < n → MixWhole st.words m) → (m : ℕ) → m < n → MixWhole (mixes_of revision d n st).words m
mixes_kept revision d n st sized all m l = record {
  used = rw add-zero at (mix_flags revision d n st sized (λ k h. rw add-zero (all k h).used) m l);
  buffers = (mixes_sized revision d n st sized).counts m l;
  offset = mix_offset_is revision d n st sized m l ∙ counts_sum m (mixes_of revision d n st).words;
}

-- ---- sinks

pub sinks_kept : (d : List ℕ) (n : ℕ) (st : SinkRows) → SinksSized n st.words st.floats
    → ((k : ℕ) → k < n → SinkWhole st.words k) → (k : ℕ) → k < n → SinkWhole (sinks_of d n st).words k
sinks_kept d n st sized all k l =
    let old : SinkFlags n st.words = record {
      used = λ j h. rw add-zero (all j h).used;
      device = λ j h. (all j h).device;
      inputs = λ j h. (all j h).inputs;
      given = λ j h. (all j h).given;
    } in
    let new = sinks_flags n d st sized old in
    record { used = rw add-zero at (new.used k l); device = new.device k l; inputs = new.inputs k l; given = new.given k l }
