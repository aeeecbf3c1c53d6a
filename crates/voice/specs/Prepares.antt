-- What `prepare` puts together, by the play mark, is what `prepare_of` says. Assumes nothing.
use Rattle.std.specs.Prelude.{◌≡◌, Bool, true, false, pos}
use Rattle.std.proofs.Common.{sym, ◌∙◌}
use Rattle.std.specs.Float.{fin}
use Rattle.voice.specs.declared.play.Play.{Play}
use Rattle.voice.specs.declared.play.Play.TheVariants.{Started, Stopped, Stopping, Paused}
use Rattle.voice.specs.declared.queue.Queue.{Queue}
use Rattle.voice.specs.declared.Voice.{Voice}
use Rattle.voice.specs.declared.ready.Prepared.{Prepared}
use Rattle.voice.specs.Prepare.{flushed, promoted, any_of, stopped, prepared_by, prepare_of}
use Rattle.voice.specs.Voice.{queue_of, with, with_queue}

-- the voice with no flush left to do
abbrev pub no_flush : Voice → Voice
no_flush v = with v.play 0 (queue_of v) v.fraction v

-- the queue that the flush walk leaves
abbrev pub flushed_queue : Voice → Queue
flushed_queue v = flushed v.flush v.base_index (queue_of v)

pub flush_queue : (v : Voice) {q f : Queue} → q ≡ queue_of v → f ≡ flushed v.flush v.base_index q → f ≡ flushed_queue v
flush_queue v eq ef = ef ∙ (λ i. flushed v.flush v.base_index (eq i))

by_play : (v : Voice) {p : Play} → v.play ≡ p → prepared_by p (flushed_queue v) v ≡ prepare_of v
unfolding prepare_of
by_play v e = λ i. prepared_by (sym e i) (flushed_queue v) v

pub prepared_started : (v : Voice) {f p : Queue} {w : Voice} {r : Bool} → v.play ≡ Started → f ≡ flushed_queue v → p ≡ promoted f
    → w ≡ with_queue p (no_flush v) → r ≡ any_of p.valid → record { voice = w; ready = r; reset = false } ≡ prepare_of v
unfolding prepared_by
prepared_started v e ef ep ew er =
    let q = ep ∙ (λ i. promoted (ef i)) in
    (λ i. record { voice = ew i; ready = er i; reset = false })
    ∙ (λ i. record { voice = with (e i) 0 (q i) v.fraction v; ready = any_of (q i).valid; reset = false })
    ∙ by_play v e

pub prepared_stopping : (v : Voice) {f s : Queue} {w : Voice} → v.play ≡ Stopping → f ≡ flushed_queue v → s ≡ stopped f
    → w ≡ with Stopped 0 s (fin false 0 (pos 0)) (no_flush v) → record { voice = w; ready = false; reset = true } ≡ prepare_of v
unfolding prepared_by
prepared_stopping v e ef es ew =
    let q = es ∙ (λ i. stopped (ef i)) in
    (λ i. record { voice = ew i; ready = false; reset = true })
    ∙ (λ i. record { voice = with Stopped 0 (q i) (fin false 0 (pos 0)) v; ready = false; reset = true })
    ∙ by_play v e

-- stopped or paused: nothing but the flush
idle : (v : Voice) (p : Play) {f : Queue} {w : Voice} → v.play ≡ p → f ≡ flushed_queue v → w ≡ with_queue f (no_flush v)
    → ◌≡◌ {A = Prepared} (record { voice = w; ready = false; reset = false }) (record { voice = with p 0 (flushed_queue v) v.fraction v; ready = false; reset = false })
idle v p e ef ew =
    (λ i. record { voice = ew i; ready = false; reset = false })
    ∙ (λ i. record { voice = with (e i) 0 (ef i) v.fraction v; ready = false; reset = false })

pub prepared_stopped : (v : Voice) {f : Queue} {w : Voice} → v.play ≡ Stopped → f ≡ flushed_queue v → w ≡ with_queue f (no_flush v)
    → record { voice = w; ready = false; reset = false } ≡ prepare_of v
unfolding prepared_by
prepared_stopped v e ef ew = idle v Stopped e ef ew ∙ by_play v e

pub prepared_paused : (v : Voice) {f : Queue} {w : Voice} → v.play ≡ Paused → f ≡ flushed_queue v → w ≡ with_queue f (no_flush v)
    → record { voice = w; ready = false; reset = false } ≡ prepare_of v
unfolding prepared_by
prepared_paused v e ef ew = idle v Paused e ef ew ∙ by_play v e
