-- A worked example of docs/QUESTIONS.md: an endless loop of one sample, of which 240 are needed, ends after 64 rounds with 64 samples. Assumes nothing.
use Rattle.std.specs.Prelude.{◌≡◌, true, false, [], ◌∷◌, refl}
use Rattle.ranges.specs.Ranges.{range, holds, next_at, next_left, left_of, readable_of}
use Rattle.voice.specs.Queue.{no_buffer, end_buffer}
use Rattle.voice.specs.declared.wave.WaveBuffer.{WaveBuffer}
use Rattle.voice.specs.declared.queue.Queue.{Queue}
use Rattle.plan.specs.Source.{Source}
use Rattle.plan.specs.Attempt.{pcm_plan, adpcm_plan, decode_plan}
use Rattle.plan.specs.Rounds.{renews_of, in_loop, loops_over, resets_played, after_missing, after_loop, span_over, after_got, round_of, round_plan, more, rounds, has_table, plan_of}

-- one sample of PCM at address 4096, which loops without end
pub one : WaveBuffer
one = record {
  addr = 4096;
  size = 2;
  start = 0;
  end = 1;
  looping = true;
  end_of_stream = false;
  loop_count = 0xffffffff;
  context = 0;
  loop_start = 0;
  loop_end = 0;
  pending = false;
}

pub queue : Queue
queue = record {
  buffers = one ∷ no_buffer ∷ no_buffer ∷ no_buffer ∷ [];
  valid = true ∷ false ∷ false ∷ false ∷ [];
  index = 0;
  consumed = 0;
  offset = 0;
  played = 0;
  loops = 0;
}

pub source : Source
source = record { format = 2; channels = 1; decoding = 0; data_source = 0; buffers_v2 = true; ranges = range 4096 0 2 ∷ [] }

pub sixty_four : ((plan_of queue source 240).rounds ≡ 64) × ((plan_of queue source 240).done ≡ 64) × ((plan_of queue source 240).queue.played ≡ 64)
unfolding queue source one plan_of rounds more has_table round_plan round_of after_got after_loop after_missing span_over resets_played loops_over in_loop renews_of decode_plan pcm_plan adpcm_plan readable_of left_of next_at next_left holds end_buffer
sixty_four = (refl, refl, refl)
