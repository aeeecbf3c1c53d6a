-- The sound of a fetch: what the acts of a plan make of the bytes of sample memory, for one channel.
use Rattle.std.specs.Prelude.{ℕ, zero, suc, ◌+◌, ◌-◌, ◌*◌, Bool, true, false, List, [], ◌∷◌, ◌++◌, Float, ℤ, pos, length, replicate}
use Rattle.std.specs.Prelude.{Option, Some, None}
use Rattle.std.specs.Float.{fin, binary32}
use Rattle.std.specs.Float.Ieee.{mul, of_bits, of_int}
use Rattle.std.specs.Int.{w16}
use Rattle.std.proofs.Common.{to_z}
use Rattle.fields.specs.Fields.{field_at}
use Rattle.ranges.specs.Ranges.{Range}
use Rattle.memory.specs.Memory.{read_of}
use Rattle.adpcm.specs.Context.{context_of, coefficients_of}
use Rattle.adpcm.specs.Decode.{run_of, floated}
use Rattle.adpcm.specs.Runs.{count_of}
use Rattle.adpcm.specs.declared.context.AdpcmContext.{AdpcmContext}
use Rattle.adpcm.specs.declared.places.Sample.{Sample}
use Rattle.plan.specs.Source.{Source}
use Rattle.plan.specs.declared.Act.{Act}
use Rattle.plan.specs.declared.Decode.{Decode}
use Rattle.plan.specs.declared.Decode.TheVariants.{Nothing, Pcm, Adpcm, Silence}
use Rattle.floats.specs.Defs.{zero32}
use Rattle.sound.specs.Fill.{tab}

-- the coefficients: 16 signed numbers of 16 bits, zeros where they can't be read
unfoldable pub table_of : Bool → Source → List ℕ → List ℤ
table_of false s m = replicate 16 (pos 0)
table_of true s m = coefficients_of (read_of s.ranges m s.data_source 32)

-- a PCM sample of a width at a byte: 16 bits as they are, a float times 32768
unfoldable pub pcm_at : ℕ → List ℕ → ℕ → Float
pcm_at zero d o = zero32
pcm_at (suc zero) d o = zero32
pcm_at (suc (suc zero)) d o = of_int binary32 (to_z w16 (field_at 2 d o))
pcm_at (suc (suc (suc w))) d o = mul binary32 (of_bits binary32 (field_at 4 d o)) (fin false 1 (pos 15))

-- channel c of n frames
unfoldable pub pcm_of : ℕ → ℕ → ℕ → List ℕ → ℕ → List Float
unfolding tab pcm_at
pcm_of width channels c d n = tab n (λ j. pcm_at width d ((j * channels + c) * width))

-- a channel while the acts are performed: the ADPCM context, which only channel 0 uses, and the samples so far
pub record Deck : Type 0 where
  pub adpcm : AdpcmContext
  pub out : List Float

-- ADPCM is decoded on channel 0; the others get as many zeros
unfoldable pub decode_adpcm : ℕ → List ℕ → Sample → ℕ → List ℤ → Deck → Deck
decode_adpcm zero d start want table k = let r = run_of d start.0 want table k.adpcm in record { adpcm = r.context; out = k.out ++ floated r.samples }
decode_adpcm (suc c) d start want table k = record { adpcm = k.adpcm; out = k.out ++ replicate (count_of (length d) start.0 want) zero32 }

unfoldable pub decode_on : Source → List ℕ → List ℤ → ℕ → Decode → Deck → Deck
unfolding decode_adpcm pcm_of
decode_on s m table c Nothing k = k
decode_on s m table c (Pcm width addr n) k =
    record { adpcm = k.adpcm; out = k.out ++ pcm_of width s.channels c (read_of s.ranges m addr (n * (width * s.channels))) n }
decode_on s m table c (Adpcm want addr bytes start) k = decode_adpcm c (read_of s.ranges m addr bytes) start want table k
decode_on s m table c (Silence n) k = record { adpcm = k.adpcm; out = k.out ++ replicate n zero32 }

-- the context after a read from an address, where one is made
abbrev pub renewed_context : List Range → List ℕ → Option ℕ → AdpcmContext → AdpcmContext
renewed_context rs m None x = x
renewed_context rs m (Some addr) x = context_of (read_of rs m addr 6)

-- an act: a context that is read first, then the decode
abbrev pub renewed : Source → List ℕ → Act → Deck → Deck
renewed s m a k = record { adpcm = renewed_context s.ranges m a.context k.adpcm; out = k.out }

unfoldable pub perform : Source → List ℕ → List ℤ → ℕ → Act → Deck → Deck
unfolding decode_on
perform s m table c a k = decode_on s m table c a.decode (renewed s m a k)

unfoldable pub perform_all : Source → List ℕ → List ℤ → ℕ → List Act → Deck → Deck
unfolding perform
perform_all s m table c [] k = k
perform_all s m table c (a ∷ acts) k = perform_all s m table c acts (perform s m table c a k)

-- a channel's row for the resampler: its history, the samples, zeros up to 3 + count
unfoldable pub row_of : List Float → ℕ → ℕ → Deck → List Float
row_of history count done k = history ++ (k.out ++ replicate (count - done) zero32)
