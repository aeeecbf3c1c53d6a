-- Which voices an update's input routes to a mix or a splitter. Definitions only.
use Rattle.std.specs.Prelude.{Bool, ◌&&◌, List, ℕ}
use Rattle.fields.specs.Fields.{field_at}
use Rattle.params.specs.declared.params.Params.{Params}
use Rattle.params.specs.Sizes.{revision_of}
use Rattle.voice.specs.Voice.{has_destination}
use Rattle.voice_records.specs.Record.{record_used, splitter_of}
use Rattle.voices.specs.Voices.{voice_record}

-- a record routes its voice: it is in use, and its mix is not 0x7fffffff or its splitter is not 0xffffffff; below revision 2 every splitter counts as that
unfoldable pub routes : Params → List ℕ → ℕ → Bool
unfolding record_used has_destination splitter_of
routes p input k =
    record_used (voice_record input k) && has_destination (field_at 4 (voice_record input k) 0x58) (splitter_of (revision_of p) (voice_record input k))
