-- Worked cases, each a computation of the definitions.
use Rattle.std.specs.Prelude.{◌≡◌, ◌+◌, ◌^◌, false, ℤ, pos, negsuc, Some, Option, Float}
use Rattle.std.specs.Float.{inf, fin}
use Rattle.schema.specs.Bounds.{index_of, max_double, min_double}

-- v has index i at schema s
abbrev pub HasIndex : ℤ → Float → ℤ → Type 0
HasIndex s v i = ◌≡◌ {A = Option ℤ} (index_of s v) (Some i)

-- 2^e, and the next double above it, for an e from -1022 to 1023: (2^52 + 1) × 2^(e - 52)
abbrev pub power : ℤ → Float
power e = fin false 1 e

abbrev pub above : ℤ → Float
above e = fin false (2 ^ 52 + 1) e

pub record Indices : Type 0 where
  -- schema 0: 1 has index 0, the next double 1
  pub one : HasIndex (pos 0) (power (pos 0)) (pos 0)
  pub after_one : HasIndex (pos 0) (above (negsuc 51)) (pos 1)
  -- schema -4: 65536 has index 1, the next double 2, 2^-16 has -1, 2^-1074 has -67
  pub wide : HasIndex (negsuc 3) (power (pos 16)) (pos 1)
  pub after_wide : HasIndex (negsuc 3) (above (negsuc 35)) (pos 2)
  pub wide_below : HasIndex (negsuc 3) (power (negsuc 15)) (negsuc 0)
  pub wide_lowest : HasIndex (negsuc 3) min_double (negsuc 66)
  -- schema 8: the largest finite double has index 262,144, infinity 262,145, 2^-1074 has -274,944
  pub fine_highest : HasIndex (pos 8) max_double (pos 262144)
  pub fine_infinity : HasIndex (pos 8) (inf false) (pos 262145)
  pub fine_lowest : HasIndex (pos 8) min_double (negsuc 274943)
