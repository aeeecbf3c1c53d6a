-- `adpcm::adpcm_size_samples` meets its contract: whole frames, and two samples for each byte after a header. Assumes nothing.
use borrow.Author.Rules.{rules}
use Rattle.adpcm.specs.Places.{held_of}
use Rattle.adpcm.proofs.places.adpcm_size_samples.Goals as goal

pub returns-then-in_frame-eq0 : goal.returns-then-in_frame-eq0
unfolding held_of
returns-then-in_frame-eq0 c = search rules

pub returns-else-in_frame-eq0 : goal.returns-else-in_frame-eq0
unfolding held_of
returns-else-in_frame-eq0 c = search rules
