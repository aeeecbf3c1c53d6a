-- A row sent to several rows of the mix buffers, each with gains of its own. Assumes nothing.
use Rattle.std.specs.Prelude.{◌≡◌, refl, List, ℕ, zero, suc, ◌+◌, ◌≤◌, ◌<◌, get_or, Float}
use Rattle.std.proofs.Common.{◌∙◌, add-one, arith}
use Rattle.std.proofs.Math.Path.{ap}
use Rattle.std.proofs.Math.ListN.{length}
use Rattle.std.specs.Float.{nan, binary32}
use Rattle.std.specs.Float.Ieee.{mul}
use Rattle.gain.specs.Gain.{mix_into}
use Rattle.gain.specs.Laws.{length_mix_into}

-- the n samples of src sent to the `count` rows from `offset` on: to the j-th with a gain that goes from `from j` to `to j`
unfoldable pub spread : (ℕ → Float) → (ℕ → Float) → ℕ → ℕ → List Float → ℕ → List Float → List Float
spread from to offset n src zero buffers = buffers
spread from to offset n src (suc j) buffers = mix_into (spread from to offset n src j buffers) (offset + j) n src (from j) (to j)

-- gain j of a list
abbrev pub gain_at : List Float → ℕ → Float
gain_at xs j = get_or xs j nan

-- gain j of a list, times a volume
abbrev pub scaled_at : Float → List Float → ℕ → Float
scaled_at volume xs j = mul binary32 volume (get_or xs j nan)

pub length_spread : (from to : ℕ → Float) (offset n : ℕ) (src : List Float) (count : ℕ) (buffers : List Float)
    → length (spread from to offset n src count buffers) ≡ length buffers
unfolding spread
length_spread from to offset n src zero buffers = refl
length_spread from to offset n src (suc j) buffers = length_mix_into _ (offset + j) n src (from j) (to j) ∙ length_spread from to offset n src j buffers

-- ---- the loop over the rows: after j of them

pub record Spreading (from to : ℕ → Float) (offset n : ℕ) (src : List Float) (count : ℕ) (b₀ b : List Float) (j : ℕ) : Type 0 where
  pub upto : j ≤ count
  pub size : length b ≡ length b₀
  pub sent : b ≡ spread from to offset n src j b₀

pub spread_begin : (from to : ℕ → Float) (offset n : ℕ) (src : List Float) (count : ℕ) (b : List Float) → Spreading from to offset n src count b b 0
unfolding spread
spread_begin from to offset n src count b = record { upto = omega arith; size = refl; sent = refl }

module _ {from to : ℕ → Float} {offset n : ℕ} {src : List Float} {count : ℕ} {b₀ b : List Float} {j : ℕ} (p : Spreading from to offset n src count b₀ b j) where
  pub spread_more : {u : List Float} {v w : Float} → j < count → v ≡ from j → w ≡ to j → u ≡ mix_into b (offset + j) n src v w
      → Spreading from to offset n src count b₀ u (j + 1)
  unfolding spread
  spread_more {u} h ev ew e = record {
    upto = omega arith;
    size = ap length e ∙ length_mix_into b (offset + j) n src _ _ ∙ p.size;
    sent = e ∙ rw (p.sent, ev, ew, add-one);
  }

  pub spread_end : count ≤ j → b ≡ spread from to offset n src count b₀
  spread_end h =
      let e : j ≡ count = omega (arith, p.upto) in
      p.sent ∙ ap (λ (k : ℕ). spread from to offset n src k b₀) e
