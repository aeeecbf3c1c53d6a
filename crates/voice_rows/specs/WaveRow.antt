-- A wave buffer's row: 8 words (start, end, looping, end_of_stream, loop_count, loop_start, loop_end, pending) and 3 longs (addr, size, context).
-- Assumes nothing.
use Rattle.std.specs.Prelude.{◌≡◌, refl, List, [], ◌∷◌, Bool, true, false, not, ℕ, eqb, length, get_or}
use Rattle.voice.specs.declared.wave.WaveBuffer.{WaveBuffer}

-- a flag is a word: 0 is false, any other true
abbrev pub flag_of : ℕ → Bool
flag_of w = not (eqb w 0)

abbrev pub word_of_flag : Bool → ℕ
word_of_flag true = 1
word_of_flag false = 0

abbrev pub wave_from : List ℕ → List ℕ → WaveBuffer
wave_from w l = record {
  addr = get_or l 0 0;
  size = get_or l 1 0;
  start = get_or w 0 0;
  end = get_or w 1 0;
  looping = flag_of (get_or w 2 0);
  end_of_stream = flag_of (get_or w 3 0);
  loop_count = get_or w 4 0;
  context = get_or l 2 0;
  loop_start = get_or w 5 0;
  loop_end = get_or w 6 0;
  pending = flag_of (get_or w 7 0);
}

abbrev pub words_from_wave : WaveBuffer → List ℕ
words_from_wave b =
    b.start ∷ b.end ∷ word_of_flag b.looping ∷ word_of_flag b.end_of_stream ∷ b.loop_count ∷ b.loop_start ∷ b.loop_end ∷ word_of_flag b.pending ∷ []

abbrev pub longs_from_wave : WaveBuffer → List ℕ
longs_from_wave b = b.addr ∷ b.size ∷ b.context ∷ []

-- ---- shut: what callers cite

unfoldable pub wave_of : List ℕ → List ℕ → WaveBuffer
wave_of w l = wave_from w l

unfoldable pub words_of_wave : WaveBuffer → List ℕ
words_of_wave b = words_from_wave b

unfoldable pub longs_of_wave : WaveBuffer → List ℕ
longs_of_wave b = longs_from_wave b

pub length_wave_words : (b : WaveBuffer) → length (words_of_wave b) ≡ 8
unfolding words_of_wave
length_wave_words b = refl

pub length_wave_longs : (b : WaveBuffer) → length (longs_of_wave b) ≡ 3
unfolding longs_of_wave
length_wave_longs b = refl
