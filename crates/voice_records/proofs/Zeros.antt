-- What the derived defaults give: zeros throughout. Assumes nothing.
use Rattle.std.proofs.Common.{◌≡◌, ℕ, false, List, replicate, get_or, sym, ◌∙◌, arith}
use Rattle.std.proofs.lemmas.List.{ext_get_or, length-replicate, get_or-replicate}
use Rattle.std.specs.Array.{AllOfLen}
use Rattle.voice.specs.declared.wave.WaveBuffer.{WaveBuffer}
use Rattle.voice.specs.Queue.{no_buffer}

-- an array whose elements are all alike
pub all_alike : {A : Type 0} {P : A → Type 0} (a : A) → ((x : A) → P x → x ≡ a) → (xs : List A) (n : ℕ) → AllOfLen P xs n → xs ≡ replicate n a
all_alike a same xs n h =
    ext_get_or a xs (replicate n a) (h.long ∙ sym (length-replicate n a))
    (λ i l. same (get_or xs i a) (h.at i a (omega (arith, h.long))) ∙ sym (get_or-replicate n i a a (omega (arith, h.long))))

pub buffer_zero : (w : WaveBuffer)
    → (w.addr ≡ 0) × ((w.size ≡ 0) × ((w.start ≡ 0) × ((w.end ≡ 0) × ((w.looping ≡ false) × ((w.end_of_stream ≡ false)
    × ((w.loop_count ≡ 0) × ((w.context ≡ 0) × ((w.loop_start ≡ 0) × ((w.loop_end ≡ 0) × (w.pending ≡ false))))))))))
    → w ≡ no_buffer
buffer_zero w (a, (b, (c, (d, (e, (f, (g, (h, (i, (j, k)))))))))) = λ z. record {
  addr = a z;
  size = b z;
  start = c z;
  end = d z;
  looping = e z;
  end_of_stream = f z;
  loop_count = g z;
  context = h z;
  loop_start = i z;
  loop_end = j z;
  pending = k z;
}
