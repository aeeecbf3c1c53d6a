-- `voice_turn::turn_far` meets its contract: 4,100 are enough for 4,097 samples behind three. Assumes nothing.
use native.Mathlib.Omega.{arith}
use lib.Ieee.{of_bits, binary32}
use lib.ListN.{length-replicate}
use Rattle.voice_turn.specs.Asks.{needed_upto}
use borrow.Author.Rules.{rules}
use Rattle.voice_turn.proofs.turn_far.Goals as goal

pub turn_in-requires : goal.turn_in-requires
turn_in-requires c = record { fact_1 = c.requires; fact_2 = omega (arith, needed_upto c.requires, length-replicate 4100 (of_bits binary32 0)) }
