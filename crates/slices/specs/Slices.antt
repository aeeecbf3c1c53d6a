-- What five lent slices hold, and that they stay the same five. Definitions only.
use Rattle.std.specs.Prelude.{◌≡◌}
use Rattle.state.specs.State.{State, state_of}
use Rattle.slices.specs.declared.Slices.{Slices}

-- the state in them
abbrev pub held : Slices → State
held s = state_of s.words.now s.longs.now s.floats.now s.contexts.now s.history.now

-- a call that is lent the struct gives back the same five slices, whatever it stored in them
pub record Kept (old new : Slices) : Type 0 where
  pub words : new.words.ghost_name ≡ old.words.ghost_name
  pub longs : new.longs.ghost_name ≡ old.longs.ghost_name
  pub floats : new.floats.ghost_name ≡ old.floats.ghost_name
  pub contexts : new.contexts.ghost_name ≡ old.contexts.ghost_name
  pub history : new.history.ghost_name ≡ old.history.ghost_name
