-- `resample::sample` meets its contract: the four neighbours start at most at length - 4, so each is read inside. Assumes nothing.
use Rattle.std.proofs.Common.{◌≡◌, ℕ, ◌+◌, ◌-◌, min, List, length, get_or, pos}
use lib.Ieee.{Float, nan, binary32, sub, of_int, to_unsigned}
use Rattle.floats.specs.Defs.{one, min_of}
use Rattle.resample.specs.Defs.{cubic, sample_from, index_at}
use Rattle.resample.proofs.sample.Goals as goal

-- what the calls give, one after the other, is the output
steps : (points : List Float) (place whole t r : Float) (n i : ℕ)
    → n ≡ to_unsigned 64 place
    → i ≡ min n (length points - 4)
    → whole ≡ of_int binary32 (pos i)
    → t ≡ min_of (sub binary32 place whole) one
    → r ≡ cubic (get_or points i nan) (get_or points (i + 1) nan) (get_or points (i + 2) nan) (get_or points (i + 3) nan) t
    → r ≡ sample_from points place (index_at points place)
unfolding sample_from
steps points place whole t r n i b d e f g = cc

pub returns : goal.returns
returns c =
    steps _ _ _ _ _ _ _ c.requires.2 c.min-i.ensures c.as_f32.ensures c.at_most_one-t.ensures c.interpolate.ensures
