-- The bytes that the library makes of a number are `bytes_of` it. Assumes nothing.
use Rattle.std.proofs.Common.{◌≡◌, refl, ℕ, zero, suc, ◌/◌, ◌%◌, ◌^◌, arith}
use Rattle.std.proofs.Math.Nat.{div-div-eq-div-mul, pow-suc}
use Rattle.std.specs.Int.{bytes_low_first, byte_at}
use Rattle.fields.specs.Fields.{bytes_of}

byte_is : (i v : ℕ) → byte_at i v ≡ v / 256 ^ i % 256
byte_is zero v = omega arith
byte_is (suc i) v = refl

pub low_first : (i w v : ℕ) → bytes_low_first i w v ≡ bytes_of w (v / 256 ^ i)
unfolding bytes_of
low_first i zero v = refl
low_first i (suc w) v = rw (byte_is, low_first (suc i) w v, pow-suc, div-div-eq-div-mul) refl

-- a number's own bytes
pub own_bytes : (w v : ℕ) → bytes_low_first 0 w v ≡ bytes_of w v
own_bytes w v = rw (low_first 0 w v) (let e : v / 256 ^ 0 ≡ v = omega arith in rw e refl)
