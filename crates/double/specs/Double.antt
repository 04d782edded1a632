-- Doubles by whole numbers. A finite double is m × 2^e with m odd (or zero), so its magnitude is a whole number of units of 2^-1074,
-- the smallest positive double, and its fraction and exponent are exact.
use Rattle.std.specs.Prelude.{◌≡◌, ℕ, zero, suc, ◌+◌, ◌-◌, ◌*◌, ◌/◌, ◌^◌, min, Bool, true, false, cond, not, T, ℤ, pos, negsuc, ◌+ℤ◌, neg_ℤ, from_bits, is_nan, nat_le, Float}
use Rattle.std.specs.Float.{nan, inf, fin, binary64}
use Rattle.std.specs.Float.Ieee.{up, down, size, le, lt, fits}

-- 0, 1/2 and 1
abbrev pub zero_double : Float
zero_double = fin false 0 (pos 0)

abbrev pub half : Float
half = fin false 1 (negsuc 0)

abbrev pub one : Float
one = fin false 1 (pos 0)

-- neither zero, nor an infinity, nor a NaN
abbrev pub finite_nonzero : Float → Bool
finite_nonzero nan = false
finite_nonzero (inf s) = false
finite_nonzero (fin s zero e) = false
finite_nonzero (fin s (suc m) e) = true

-- a double that is a number
abbrev pub Number : Float → Type 0
Number v = T (fits binary64 v) × T (not (is_nan v))

-- the magnitude: the double without its sign
abbrev pub magnitude : Float → Float
magnitude nan = nan
magnitude (inf s) = inf false
magnitude (fin s m e) = fin false m e

-- the magnitude in units of 2^-1074. Infinity counts as the first whole number above 2^1024.
unfoldable pub units : Float → ℕ
units nan = 0
units (inf s) = 2 ^ 2098 + 1
units (fin s m e) = m * up e * 2 ^ 1074 / down e

-- the bit pattern of the 53 leading binary digits of n units; the digits after them are cut
abbrev pub pattern : ℕ → ℕ
pattern n = (size n - 53) * 2 ^ 52 + n / 2 ^ (size n - 53)

-- the largest double that is at most n units; infinity where n is above 2^1024
unfoldable pub largest : ℕ → Float
largest n = cond (nat_le n (2 ^ 2098)) (from_bits binary64 (pattern (min n (2 ^ 2098 - 1)))) (inf false)

-- m × 2^e is (m × 2^-d) × 2^(e + d), where m has d binary digits: the fraction ..
abbrev pub fraction : Float → Float
fraction nan = zero_double
fraction (inf s) = zero_double
fraction (fin s zero e) = zero_double
fraction (fin s (suc m) e) = fin false (suc m) (neg_ℤ (pos (size (suc m))))

-- .. and the exponent
abbrev pub exponent : Float → ℤ
exponent nan = pos 0
exponent (inf s) = pos 0
exponent (fin s zero e) = pos 0
exponent (fin s (suc m) e) = e +ℤ pos (size (suc m))

-- f is at least 1/2 and below 1, and f × 2^x is exactly the magnitude of v: 2^x is the fraction up x / down x
pub record Splits (v f : Float) (x : ℤ) : Type 0 where
  pub at_least_half : T (le half f)
  pub below_one : T (lt f one)
  pub exact : units v * down x ≡ units f * up x
