-- What the functions of a record put together is what their definitions say. Assumes nothing.
use Rattle.std.specs.Prelude.{◌≡◌, ℕ, ◌<◌, ◌≤◌, Bool, cond, ◌&&◌, List, [], ◌∷◌, ◌≢◌, slice_index_or}
use Rattle.std.proofs.Common.{sym, ◌∙◌, le-leb, eq-eqb, ne_eqb}
use Rattle.std.proofs.lemmas.Bool.{lt-leb}
use Rattle.fields.specs.Fields.{field_at}
use Rattle.voice.specs.declared.wave.WaveBuffer.{WaveBuffer}
use Rattle.voice.specs.Wave.{parse_of, offsets_valid}
use Rattle.voice.specs.Queue.{no_buffer}
use Rattle.voice_records.specs.Record.{since, id_at, ids_of, wave_record, takes_wave, recorded_buffer, recorded_buffers}

-- a number of this revision, and of one before it
pub since_new : (least revision old : ℕ) {x new : ℕ} → least ≤ revision → x ≡ new → x ≡ since least revision new old
unfolding since
since_new least revision old h e = rw (le-leb least revision h) e

pub since_old : (least revision new old : ℕ) → revision < least → old ≡ since least revision new old
unfolding since
since_old least revision new old h = rw (lt-leb least revision h)

pub ids_made : (count : ℕ) (p : List ℕ) {a b c d e f : ℕ} → a ≡ id_at count p 0 → b ≡ id_at count p 1 → c ≡ id_at count p 2 → d ≡ id_at count p 3
    → e ≡ id_at count p 4 → f ≡ id_at count p 5 → a ∷ b ∷ c ∷ d ∷ e ∷ f ∷ [] ≡ ids_of count p
unfolding ids_of
ids_made count p ea eb ec ed ee ef = λ i. ea i ∷ eb i ∷ ec i ∷ ed i ∷ ee i ∷ ef i ∷ []

-- a wave buffer that was not sent before, by whether its offsets are valid
pub buffer_tried : (valid : Bool) (format : ℕ) (p : List ℕ) (b : ℕ) (old : WaveBuffer) {w : List ℕ} {x : ℕ} {wave : WaveBuffer} {t : Bool}
    → w ≡ wave_record p b → x ≡ field_at 1 w 0x1a → x ≡ 0 → wave ≡ parse_of w → t ≡ offsets_valid wave format → t ≡ valid
    → cond valid wave old ≡ recorded_buffer format p b old
unfolding recorded_buffer takes_wave
buffer_tried valid format p b old {w} {x} {wave} ew ex e0 ep eo et =
    let zero = eq-eqb (field_at 1 w 0x1a) 0 (sym ex ∙ e0) in
    (λ i. cond (sym et i) (ep i) old)
    ∙ (λ i. cond (eo i) (parse_of w) old)
    ∙ (λ i. cond (offsets_valid (ep i) format) (parse_of w) old)
    ∙ (λ i. cond (sym zero i && offsets_valid (parse_of w) format) (parse_of w) old)
    ∙ (λ i. cond (takes_wave format (ew i)) (parse_of (ew i)) old)

-- one that was
pub buffer_sent : (format : ℕ) (p : List ℕ) (b : ℕ) (old : WaveBuffer) {w : List ℕ} {x : ℕ}
    → w ≡ wave_record p b → x ≡ field_at 1 w 0x1a → (x ≢ 0) → old ≡ recorded_buffer format p b old
unfolding recorded_buffer takes_wave
buffer_sent format p b old {w} {x} ew ex ne =
    let sent = ne_eqb (field_at 1 w 0x1a) 0 (λ e. ne (ex ∙ e)) in
    (λ i. cond (sym sent i && offsets_valid (parse_of w) format) (parse_of w) old)
    ∙ (λ i. cond (takes_wave format (ew i)) (parse_of (ew i)) old)

pub buffers_made : (format : ℕ) (p : List ℕ) (old : List WaveBuffer) {a b c d : WaveBuffer}
    → a ≡ recorded_buffer format p 0 (slice_index_or old 0 no_buffer) → b ≡ recorded_buffer format p 1 (slice_index_or old 1 no_buffer)
    → c ≡ recorded_buffer format p 2 (slice_index_or old 2 no_buffer) → d ≡ recorded_buffer format p 3 (slice_index_or old 3 no_buffer)
    → a ∷ b ∷ c ∷ d ∷ [] ≡ recorded_buffers format p old
unfolding recorded_buffers
buffers_made format p old ea eb ec ed = λ i. ea i ∷ eb i ∷ ec i ∷ ed i ∷ []
