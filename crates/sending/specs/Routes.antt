-- What each way of a voice's sends leaves in the floats. Assumes nothing.
use Rattle.std.specs.Prelude.{◌≡◌, refl, List, ℕ, ◌+◌, ◌*◌, ◌≤◌, length, Float}
use Rattle.std.proofs.Common.{sym, ap, ◌∙◌, arith}
use Rattle.rows.specs.Rows.{part, put, length_part, length_put, put_part, part_put_after}
use Rattle.rows.specs.Lent.{lent, returned, part_cut, returned_is}
use Rattle.voice_sends.specs.Sending.{Ids, Rowed, ramped_rows, Passing, passing, to_mix, by_splitter, Sent, sends_of}
use Rattle.voice_sends.specs.Laws.{length_ramped_rows}
use Rattle.voice_sends.specs.Sizes.{Sizes, to_mix_keeps, by_splitter_keeps}
use Rattle.voice_sends.specs.Cases.{sends_by_splitter, sends_to_mix}
use Rattle.sending.specs.Sending.{gains_at, gains_back, sent_at, sent_back}

-- rows that are ramped are rows as long
pub ramped_rowed : (from to : Float) {n channels : ℕ} {out r : List Float} → Rowed n channels out → r ≡ ramped_rows from to n channels out → Rowed n channels r
ramped_rowed from to {n} {channels} {out} {r} p e = record {
  some = p.some;
  short = p.short;
  one = p.one;
  few = p.few;
  inside = rw (e, length_ramped_rows from to n channels out p.inside) p.inside;
}

-- sends of what a ramp left
pub route_ramped : (a b : ℕ) (floats : List Float) (n channels : ℕ) (ids : List ℕ) (mix splitter : ℕ) (mixes : List ℕ) (nm : ℕ) (lists : List ℕ) (ns nd : ℕ) (st : Sent)
    {r out : List Float} {u : Passing} → r ≡ out → u ≡ sent_back a b floats (sends_of n r channels ids mix splitter mixes nm lists ns nd st)
    → u ≡ sent_back a b floats (sends_of n out channels ids mix splitter mixes nm lists ns nd st)
route_ramped a b floats n channels ids mix splitter mixes nm lists ns nd st h e =
    e ∙ ap (λ (o : List Float). sent_back a b floats (sends_of n o channels ids mix splitter mixes nm lists ns nd st)) h

-- ---- gains that are lent come back in their place

module _ (count a : ℕ) (floats buffers : List Float) (fits : a + count * 48 ≤ length floats) where
  pub gains_sized : Sizes (length buffers) (count * 48) (gains_at count a floats buffers)
  gains_sized = record { buffers = refl; gains = length_part (count * 48) a floats fits }

  pub gains_back_lem : (f : Passing → Passing) {b r : List Float} → Sizes (length buffers) (count * 48) (f (gains_at count a floats buffers))
      → passing b r ≡ f (passing buffers (lent floats a (count * 48)))
      → passing b (returned floats a (count * 48) r) ≡ gains_back a floats (f (gains_at count a floats buffers))
  gains_back_lem f {b} {r} q e =
      let e' : passing b r ≡ f (gains_at count a floats buffers) = e ∙ ap (λ (x : List Float). f (passing buffers x)) (part_cut floats a (count * 48)) in
      let g = returned_is floats a (count * 48) fits (ap (λ (x : Passing). x.gains) e') q.gains in
      λ i. passing (e' i).buffers (g i)

module _ (nc a : ℕ) (floats buffers : List Float) (fits : a + nc * 48 ≤ length floats) (n : ℕ) (out : List Float) (channels : ℕ) {ids : List ℕ} (mixes : List ℕ) (nm m : ℕ) where
  pub to_mix_sized : Ids nc ids → channels ≤ 6 → Sizes (length buffers) (nc * 48) (to_mix n out channels ids mixes nm m (gains_at nc a floats buffers))
  to_mix_sized p few = to_mix_keeps p n out channels few mixes nm m (gains_at nc a floats buffers) (gains_sized nc a floats buffers fits)

  pub to_mix_back : Ids nc ids → channels ≤ 6 → {b r : List Float} → passing b r ≡ to_mix n out channels ids mixes nm m (passing buffers (lent floats a (nc * 48)))
      → passing b (returned floats a (nc * 48) r) ≡ gains_back a floats (to_mix n out channels ids mixes nm m (gains_at nc a floats buffers))
  to_mix_back p few = gains_back_lem nc a floats buffers fits (to_mix n out channels ids mixes nm m) (to_mix_sized p few)

pub by_splitter_back : (nd b : ℕ) (floats buffers : List Float) → b + nd * 48 ≤ length floats
    → (n : ℕ) (out : List Float) (channels : ℕ) (mixes : List ℕ) (nm : ℕ) (lists : List ℕ) (ns s : ℕ) {x r : List Float}
    → passing x r ≡ by_splitter n out channels mixes nm lists ns nd s (passing buffers (lent floats b (nd * 48)))
    → passing x (returned floats b (nd * 48) r) ≡ gains_back b floats (by_splitter n out channels mixes nm lists ns nd s (gains_at nd b floats buffers))
by_splitter_back nd b floats buffers fits n out channels mixes nm lists ns s =
    gains_back_lem nd b floats buffers fits (by_splitter n out channels mixes nm lists ns nd s)
    (by_splitter_keeps n out channels mixes nm lists ns nd s (gains_at nd b floats buffers) (gains_sized nd b floats buffers fits))

-- ---- the gains that a way does not go by stay

module _ (nc a nd b : ℕ) (floats buffers : List Float) (apart : a + nc * 48 ≤ b) (fits : b + nd * 48 ≤ length floats) where
  -- resources that come back unchanged
  resources_stay : put floats a (part (nc * 48) a floats) ≡ floats
  resources_stay = put_part (nc * 48) a floats (omega arith)

  -- destinations that come back unchanged, after the resources g
  destinations_stay : (g : List Float) → length g ≡ nc * 48 → put (put floats a g) b (part (nd * 48) b floats) ≡ put floats a g
  destinations_stay g l =
      let fit : a + length g ≤ length floats = omega arith in
      let e : part (nd * 48) b (put floats a g) ≡ part (nd * 48) b floats = part_put_after floats a g fit (nd * 48) b (omega arith) in
      ap (put (put floats a g) b) (sym e) ∙ put_part (nd * 48) b (put floats a g) (rw (length_put floats a g fit) fits)

  module _ (n : ℕ) (out : List Float) (channels : ℕ) (ids : List ℕ) (mix splitter : ℕ) (mixes : List ℕ) (nm : ℕ) (lists : List ℕ) (ns : ℕ) where
    pub route_by_splitter : mix ≡ 0x7fffffff → {u : Passing}
        → u ≡ gains_back b floats (by_splitter n out channels mixes nm lists ns nd splitter (gains_at nd b floats buffers))
        → u ≡ sent_back a b floats (sends_of n out channels ids mix splitter mixes nm lists ns nd (sent_at nc a nd b floats buffers))
    route_by_splitter h {u} e =
        let x = by_splitter n out channels mixes nm lists ns nd splitter (gains_at nd b floats buffers) in
        e
        ∙ ap (λ (s : List Float). passing x.buffers (put s b x.gains)) (sym resources_stay)
        ∙ ap (sent_back a b floats) (sends_by_splitter n out channels ids mix splitter mixes nm lists ns nd (sent_at nc a nd b floats buffers) h refl)

    pub route_to_mix : Ids nc ids → channels ≤ 6 → (mix ≡ 0x7fffffff → ⊥) → {u : Passing}
        → u ≡ gains_back a floats (to_mix n out channels ids mixes nm mix (gains_at nc a floats buffers))
        → u ≡ sent_back a b floats (sends_of n out channels ids mix splitter mixes nm lists ns nd (sent_at nc a nd b floats buffers))
    route_to_mix p few h {u} e =
        let x = to_mix n out channels ids mixes nm mix (gains_at nc a floats buffers) in
        let l = to_mix_sized nc a floats buffers (omega arith) n out channels mixes nm mix p few in
        e
        ∙ ap (passing x.buffers) (sym (destinations_stay x.gains l.gains))
        ∙ ap (sent_back a b floats) (sends_to_mix n out channels ids mix splitter mixes nm lists ns nd (sent_at nc a nd b floats buffers) h refl)
