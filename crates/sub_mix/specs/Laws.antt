-- Each send and mix by cases, and the length of the buffers, which none of them changes. Assumes nothing.
use Rattle.std.specs.Prelude.{◌≡◌, Bool, true, false, cond, ◌&&◌, List, leb, eqb, Float}
use Rattle.std.proofs.Math.Path.{refl, ap}
use Rattle.std.proofs.Common.{◌∙◌}
use Prim.Native.Nat.{ℕ, ◌+◌, ◌*◌, ◌%◌, max, ◌≤◌, ◌<◌}
use native.Mathlib.Omega.{arith}
use borrow.Author.Tests.{le-leb, lt-leb, lt-ltb, le-ltb, eq-eqb, ne_eqb}
use Rattle.std.proofs.Math.Dec.{ltb}
use Rattle.std.proofs.Math.ListN.{length}
use Rattle.rows.specs.Rows.{part}
use Rattle.rows.specs.Folds.{up_to, up_to_kept}
use Rattle.sends.specs.Sends.{spread, scaled_at, length_spread}
use Rattle.desk_rows.specs.DeskRows.{mix_buffers, mix_destination, mix_splitter, mix_offset, list_length, list_entry, configured_of, destination_mix}
use Rattle.desk_order.specs.DeskOrder.{unused_mix}
use Rattle.sub_mix.specs.SubMix.{mix_volume, buffer_volumes, destination_volumes, send_row, send_buffer, send_entry, run_mix}

-- a choice between two lists of one length
pub either_length : (b : Bool) (xs ys : List Float) {n : ℕ} → length xs ≡ n → length ys ≡ n → length (cond b xs ys) ≡ n
either_length true xs ys p q = p
either_length false xs ys p q = q

-- ---- a row that is sent
module _ (n : ℕ) (mixes : List ℕ) (row to : ℕ) (volume : Float) (volumes buffers : List Float) where
  -- what a copy of the row and a send of it make
  pub row_sent : {offset count w : ℕ} {src u : List Float} → row * n + n ≤ length buffers → offset ≡ mix_offset mixes to → count ≡ mix_buffers mixes to → w ≡ n
      → src ≡ part w (row * n) buffers → u ≡ spread (scaled_at volume volumes) (scaled_at volume volumes) offset n src count buffers
      → u ≡ send_row n mixes row to volume volumes buffers
  unfolding send_row
  row_sent h o c w s e =
      rw (le-leb (row * n + n) (length buffers) h)
      (e ∙ (λ i. spread (scaled_at volume volumes) (scaled_at volume volumes) (o i) n ((s ∙ ap (λ (x : ℕ). part x (row * n) buffers) w) i) (c i) buffers))

  pub row_outside : length buffers < row * n + n → send_row n mixes row to volume volumes buffers ≡ buffers
  unfolding send_row
  row_outside h = rw (lt-leb (row * n + n) (length buffers) h)

  pub length_send_row : length (send_row n mixes row to volume volumes buffers) ≡ length buffers
  unfolding send_row
  length_send_row =
      either_length (leb (row * n + n) (length buffers)) _ _
      (length_spread (scaled_at volume volumes) (scaled_at volume volumes) (mix_offset mixes to) n (part n (row * n) buffers) (mix_buffers mixes to) buffers)
      refl

module _ (n nm : ℕ) (mixes : List ℕ) (volumes : List Float) (ns nd : ℕ) (lists : List ℕ) (destinations : List Float) where
  -- ---- an entry of a splitter's list
  module _ (m k d : ℕ) (buffers : List Float) where
    pub entry_not_configured : configured_of ns nd lists d ≡ false → send_entry n nm mixes volumes ns nd lists destinations m k d buffers ≡ buffers
    unfolding send_entry
    entry_not_configured e = rw e

    pub entry_no_mix : configured_of ns nd lists d ≡ true → nm ≤ destination_mix ns lists d
        → send_entry n nm mixes volumes ns nd lists destinations m k d buffers ≡ buffers
    unfolding send_entry
    entry_no_mix e h = rw (e, le-ltb (destination_mix ns lists d) nm h)

    -- what a send to its mix makes
    pub entry_sent_lem : {to : ℕ} {u : List Float} → configured_of ns nd lists d ≡ true → to ≡ destination_mix ns lists d → to < nm
        → u ≡ send_row n mixes (mix_offset mixes m + k % max (mix_buffers mixes m) 1) to (mix_volume volumes m) (destination_volumes destinations d) buffers
        → u ≡ send_entry n nm mixes volumes ns nd lists destinations m k d buffers
    unfolding send_entry
    entry_sent_lem e t h g =
        let l : destination_mix ns lists d < nm = omega arith in
        rw (e, lt-ltb (destination_mix ns lists d) nm l) (g ∙ rw t)

    pub length_send_entry : length (send_entry n nm mixes volumes ns nd lists destinations m k d buffers) ≡ length buffers
    unfolding send_entry
    length_send_entry =
        either_length (configured_of ns nd lists d && ltb (destination_mix ns lists d) nm) _ _
        (length_send_row n mixes (mix_offset mixes m + k % max (mix_buffers mixes m) 1) (destination_mix ns lists d) (mix_volume volumes m) (destination_volumes destinations d) buffers)
        refl

  -- ---- a mix
  module _ (m : ℕ) (buffers : List Float) where
    module _ (u : mix_destination mixes m ≡ unused_mix) where
      pub mix_splits : mix_splitter mixes m < ns → run_mix n nm mixes volumes ns nd lists destinations m buffers
          ≡ up_to (λ k. send_entry n nm mixes volumes ns nd lists destinations m k (list_entry lists (mix_splitter mixes m) k)) (list_length lists (mix_splitter mixes m)) buffers
      unfolding run_mix
      mix_splits h = rw (eq-eqb (mix_destination mixes m) unused_mix u, lt-ltb (mix_splitter mixes m) ns h)

      pub mix_no_splitter : ns ≤ mix_splitter mixes m → run_mix n nm mixes volumes ns nd lists destinations m buffers ≡ buffers
      unfolding run_mix
      mix_no_splitter h = rw (eq-eqb (mix_destination mixes m) unused_mix u, le-ltb (mix_splitter mixes m) ns h)

    module _ (u : mix_destination mixes m ≡ unused_mix → ⊥) where
      pub mix_goes : mix_destination mixes m < nm → run_mix n nm mixes volumes ns nd lists destinations m buffers
          ≡ up_to (send_buffer n mixes volumes m (mix_destination mixes m)) (mix_buffers mixes m) buffers
      unfolding run_mix
      mix_goes h = rw (ne_eqb (mix_destination mixes m) unused_mix u, lt-ltb (mix_destination mixes m) nm h)

      pub mix_nowhere : nm ≤ mix_destination mixes m → run_mix n nm mixes volumes ns nd lists destinations m buffers ≡ buffers
      unfolding run_mix
      mix_nowhere h = rw (ne_eqb (mix_destination mixes m) unused_mix u, le-ltb (mix_destination mixes m) nm h)

    pub length_run_mix : length (run_mix n nm mixes volumes ns nd lists destinations m buffers) ≡ length buffers
    unfolding run_mix send_buffer
    length_run_mix =
        either_length (eqb (mix_destination mixes m) unused_mix) _ _
        (either_length (ltb (mix_splitter mixes m) ns) _ _
        (up_to_kept (λ k. send_entry n nm mixes volumes ns nd lists destinations m k (list_entry lists (mix_splitter mixes m) k)) length
        (λ k. length_send_entry m k (list_entry lists (mix_splitter mixes m) k)) (list_length lists (mix_splitter mixes m)) buffers)
        refl)
        (either_length (ltb (mix_destination mixes m) nm) _ _
        (up_to_kept (send_buffer n mixes volumes m (mix_destination mixes m)) length
        (λ i bs. length_send_row n mixes (mix_offset mixes m + i) (mix_destination mixes m) (mix_volume volumes m) (buffer_volumes volumes m i) bs) (mix_buffers mixes m) buffers)
        refl)
