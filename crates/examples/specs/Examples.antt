-- The worked examples of the definitions, as one table: what a definition gives, beside what is to come out.
use Rattle.std.specs.Prelude.{List, [], ◌∷◌, ◌++◌, map, ℕ, ℤ, pos, negsuc, replicate, Bool, true, false}
use Rattle.std.specs.Float.{binary32, fin}
use Rattle.std.specs.Float.Ieee.{to_bits}
use Rattle.adpcm.specs.Places.{size_of}
use Rattle.adpcm.specs.Decode.{run_of}
use Rattle.adpcm.specs.Answer.{none}
use Rattle.resample.specs.Defs.{half, needed_of, next_of}
use Rattle.params.specs.Examples.{excess}
use Rattle.voice.specs.Wave.{offsets_valid}
use Rattle.voice.specs.declared.wave.WaveBuffer.{WaveBuffer}
use Rattle.adpcm.specs.declared.context.AdpcmContext.{AdpcmContext}

pub record Row : Type 0 where
  pub gives : List ℤ
  pub says : List ℤ

abbrev pub zeros : List ℤ
zeros = replicate 16 (pos 0)

-- what is left of a context, as numbers
abbrev pub left : AdpcmContext → List ℤ
left x = pos x.pred_scale ∷ x.history0 ∷ x.history1 ∷ []

unfoldable pub p1 : Row
p1 = record { gives = map (λ (n : ℕ). pos (size_of n)) (0 ∷ 1 ∷ 13 ∷ 14 ∷ 15 ∷ []); says = pos 0 ∷ pos 2 ∷ pos 8 ∷ pos 8 ∷ pos 10 ∷ [] }

unfoldable pub p2 : Row
p2 = record { gives = (run_of (0x00 ∷ 0x1F ∷ []) 0 2 zeros none).samples; says = pos 1 ∷ negsuc 0 ∷ [] }

unfoldable pub p3 : Row
p3 = record { gives = (run_of (0x0D ∷ 0x78 ∷ []) 0 2 zeros none).samples; says = pos 32767 ∷ negsuc 32767 ∷ [] }

-- no samples; the header is kept
unfoldable pub p4 : Row
p4 = let r = run_of (0x0C ∷ []) 0 5 zeros none in record { gives = r.samples ++ left r.context; says = pos 0x0C ∷ pos 0 ∷ pos 0 ∷ [] }

unfoldable pub p5 : Row
p5 = record {
  gives = (run_of (0x00 ∷ 0x00 ∷ []) 0 1 (pos 2048 ∷ replicate 15 (pos 0)) (record { pred_scale = 0; history0 = pos 100; history1 = pos 0 })).samples;
  says = pos 100 ∷ [];
}

-- the samples needed, and the bits of the next fraction
unfoldable pub p6 : Row
p6 = let ratio = fin false 3 (negsuc 0) in
    record { gives = pos (needed_of half ratio 3) ∷ pos (to_bits binary32 (next_of half ratio 3)) ∷ []; says = pos 5 ∷ pos 0 ∷ [] }

-- a wave buffer of 8 bytes that ends at a sample
abbrev pub ending : ℕ → WaveBuffer
ending end = record {
  addr = 0;
  size = 8;
  start = 0;
  end = end;
  looping = false;
  end_of_stream = false;
  loop_count = 0;
  context = 0;
  loop_start = 0;
  loop_end = 0;
  pending = true;
}

-- 1 where the buffer is kept, 0 where it is dropped
abbrev pub kept : Bool → ℤ
kept true = pos 1
kept false = pos 0

-- 16-bit PCM, one channel
unfoldable pub p7 : Row
p7 = record { gives = kept (offsets_valid (ending 4) 2) ∷ kept (offsets_valid (ending 5) 2) ∷ []; says = pos 1 ∷ pos 0 ∷ [] }

-- the effects' bytes in the reply of three effects, where the expected size exceeds the rest by 10, and by 2
unfoldable pub p8 : Row
p8 = record { gives = pos (excess 10) ∷ pos (excess 2) ∷ []; says = pos 9 ∷ pos 0 ∷ [] }

unfoldable pub table : List Row
table = p1 ∷ p2 ∷ p3 ∷ p4 ∷ p5 ∷ p6 ∷ p7 ∷ p8 ∷ []
