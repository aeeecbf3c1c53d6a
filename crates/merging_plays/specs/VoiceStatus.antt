-- The 16 bytes that a reply has for a voice, by the voice. Definitions only.
use Rattle.std.specs.Prelude.{cond, not, ◌&&◌, List, ℕ}
use Rattle.voice.specs.declared.Voice.{Voice}
use Rattle.reply_sections.specs.Bytes.{zeros}
use Rattle.reply_sections.specs.Voices.{heard_of}

-- of one in use and not fresh what it has played and consumed, else zeros
unfoldable pub voice_status : Voice → List ℕ
voice_status v = cond (v.in_use && not v.fresh) (heard_of v.played v.consumed) (zeros 16)
