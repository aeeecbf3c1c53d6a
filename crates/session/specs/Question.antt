-- Question 10 (docs/QUESTIONS.md). Definitions only.
use Rattle.std.specs.Prelude.{Bool, ◌&&◌, List, ℕ, zero, suc, leb, ltb, eqb, length, drop}
use Rattle.params.specs.declared.params.Params.{Params}
use Rattle.session.specs.Input.{parameters_size, parameters_of, call_count, calls_at, calls_of, call_of, size_of}

-- samples at most 64, voices 4, sub_mixes 3, mix buffers 12, splitters and destinations 8
unfoldable pub small_of : Params → Bool
small_of p =
    leb p.sample_count 64
    && leb p.voices 4
    && leb p.sub_mixes 3
    && leb p.mix_buffers 12
    && leb p.splitters 8
    && leb p.splitter_destinations 8

-- d is n calls, one behind the other, and nothing after them
unfoldable pub calls_whole : ℕ → List ℕ → Bool
unfolding call_of
calls_whole zero d = eqb (length d) 0
calls_whole (suc n) d = ltb 0 (size_of (call_of d)) && calls_whole n (drop (size_of (call_of d)) d)

-- at most 65,536 bytes; 0x34 of parameters; all that stands before the calls is there; small sizes; the calls complete, and nothing after them
unfoldable pub accepted_of : List ℕ → Bool
unfolding small_of calls_whole
accepted_of d =
    leb (length d) 65536
    && eqb (parameters_size d) 0x34
    && leb (calls_at d) (length d)
    && small_of (parameters_of d)
    && calls_whole (call_count d) (calls_of d)
