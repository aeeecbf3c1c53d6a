-- The sound side of a voice: its ADPCM context and its history, three samples for each of six channels.
use Rattle.std.specs.Prelude.{Bool, true, false, replicate, pos}
use Rattle.std.specs.Float.{fin}
use Rattle.voice.specs.declared.sound.Sound.{Sound}

-- of a voice that has played nothing
unfoldable pub silent_sound : Sound
silent_sound = record {
  adpcm = record { pred_scale = 0; history0 = pos 0; history1 = pos 0 };
  history = record { samples = replicate 18 (fin false 0 (pos 0)) };
}

-- a new voice, and one that has stopped, keeps nothing of it
unfoldable pub sound_after : Bool → Sound → Sound
unfolding silent_sound
sound_after true s = silent_sound
sound_after false s = s
