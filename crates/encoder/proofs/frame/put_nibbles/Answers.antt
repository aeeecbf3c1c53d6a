-- `encoder::frame::put_nibbles` meets its contract: what is written and what is left are the whole. Assumes nothing.
use mathlib.Core.Path.{refl}
use native.Mathlib.Omega.{arith}
use mir.Facts.{to_z-of_z}
use Rattle.encoder.proofs.WholeFrame.{puts_by}
use Rattle.trial.proofs.Trying.{fits_again}
use Rattle.encoder.proofs.Putting.{put_begin, put_more, put_end, packs_by}
use Rattle.encoder.proofs.frame.put_nibbles.Goals as goal

pub loop-j-init : goal.loop-j-init
loop-j-init c = (c.requires.2, put_begin _ _ _ _ _ _ _ (fits_again c.ranges.h0) (fits_again c.ranges.h1))

pub next_byte-byte-requires : goal.next_byte-byte-requires
next_byte-byte-requires c = (omega arith, omega (arith, c.loop-j.invariant.0, c.loop-j.invariant.1.size))

pub loop-j-preserved : goal.loop-j-preserved
loop-j-preserved c =
    let packs = packs_by _ _ _ refl (to_z-of_z c.next_byte-byte.ensures.fits0) (to_z-of_z c.next_byte-byte.ensures.fits1) c.next_byte-byte.ensures in (
      c.loop-j.invariant.0,
      put_more _ _ _ _ _ _ _ _ _ _ _ c.loop-j.invariant.1 (omega (arith, c.loop-j-test.true, c.loop-j.invariant.1.size)) _ _ _ packs,
    )

pub returns : goal.returns
returns c =
    let f = c.ranges in
    let l = c.loop-j in
    puts_by _ _ (to_z-of_z f.c) (to_z-of_z f.d) (to_z-of_z f.h0) (to_z-of_z f.h1) refl refl
    (put_end _ _ _ _ _ _ _ _ _ _ _ l.invariant.1 l.invariant.0 (omega (arith, c.loop-j-test.false, l.invariant.1.size)))
