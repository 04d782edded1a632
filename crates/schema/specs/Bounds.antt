-- Bucket bounds and bucket indices of the schemas -4 to 8.
use Rattle.std.specs.Prelude.{◌≡◌, ℕ, zero, suc, ◌+◌, ◌-◌, ◌*◌, ◌/◌, ◌^◌, Bool, true, false, cond, ◌&&◌, T, List, [], ◌∷◌, ℤ, pos, negsuc, ◌+ℤ◌, ◌-ℤ◌, ◌*ℤ◌, neg_ℤ, Some, None, Option, int_le, nat_le, Float}
use Rattle.std.specs.Float.{nan, inf, fin}
use Rattle.std.specs.Float.Ieee.{up, down, lt, le}
use Rattle.index.specs.Index.{quotient, remainder}
use Rattle.double.specs.Double.{Number, units, magnitude, largest, fraction, exponent}
use Rattle.schema.specs.Tables.{table, entry, entry_double}

-- ---- schemas

abbrev pub is_schema : ℤ → Bool
is_schema s = int_le (negsuc 3) s && int_le s (pos 8)

-- ---- bounds

-- The exact bound of index i at schema s is base × 2^(power - 53).
-- At s ≥ 0, with i = k × 2^s + j and 0 ≤ j < 2^s, it is entry j of the schema's table, times 2^(k + 1).
-- At s < 0 it is 2^(i × 2^-s).
abbrev pub base : ℤ → ℤ → ℕ
base (pos a) i = entry a (remainder (2 ^ a) i)
base (negsuc b) i = 2 ^ 53

abbrev pub power : ℤ → ℤ → ℤ
power (pos a) i = quotient (2 ^ a) i +ℤ pos 1
power (negsuc b) i = i *ℤ pos (2 ^ suc b)

-- n × 2^x, cut to a whole number
abbrev pub scaled : ℕ → ℤ → ℕ
scaled n x = n * up x / down x

-- the exact bound in units of 2^-1074, cut to whole ones
unfoldable pub cut : ℤ → ℤ → ℕ
cut s i = scaled (base s i) (power s i +ℤ pos 1021)

-- the bound: the largest double that is at most the exact bound, or infinity where that is above 2^1024
abbrev pub bound : ℤ → ℤ → Float
bound s i = largest (cut s i)

-- whether the magnitude of v is at most the exact bound; infinity is where that is above 2^1024
abbrev pub within_exact : ℤ → ℤ → Float → Bool
within_exact s i v = nat_le (units v * down (power s i +ℤ pos 1021)) (base s i * up (power s i +ℤ pos 1021))

-- r is the largest double that is at most the exact bound of i
pub record Largest (s i : ℤ) (r : Float) : Type 0 where
  pub within : T (within_exact s i r)
  pub reaches : (v : Float) → Number v → T (within_exact s i v) → T (le (magnitude v) r)

-- ---- indices

-- how many entries of a table are below f
abbrev pub entries_below : Float → List ℕ → ℕ
entries_below f [] = 0
entries_below f (n ∷ ns) = cond (lt (entry_double n) f) 1 0 + entries_below f ns

-- at schema a ≥ 0: the exponent says which octave, the table which of its 2^a buckets
abbrev pub table_index : ℕ → Float → ℤ
table_index a v = (exponent v -ℤ pos 1) *ℤ pos (2 ^ a) +ℤ pos (entries_below (fraction v) (table a))

-- the index of a finite number that is not zero; below schema 0 it is schema 0's, divided by 2^-s and rounded up
abbrev pub finite_index : ℤ → Float → ℤ
finite_index (pos a) v = table_index a v
finite_index (negsuc b) v = quotient (2 ^ suc b) (table_index 0 v +ℤ pos (2 ^ suc b - 1))

-- the largest finite double
abbrev pub max_double : Float
max_double = fin false (2 ^ 53 - 1) (pos 971)

-- the smallest positive double, 2^-1074
abbrev pub min_double : Float
min_double = fin false 1 (negsuc 1073)

-- the index of a number that is not zero; that of an infinity comes after that of the largest finite double
abbrev pub index : ℤ → Float → ℤ
index s nan = pos 0
index s (inf n) = finite_index s max_double +ℤ pos 1
index s (fin n m e) = finite_index s (fin n m e)

-- whether v is a number other than zero
abbrev pub nonzero : Float → Bool
nonzero nan = false
nonzero (inf n) = true
nonzero (fin n zero e) = false
nonzero (fin n (suc m) e) = true

-- the index of v, if it is a number other than zero
abbrev pub index_of : ℤ → Float → Option ℤ
index_of s v = cond (nonzero v) (Some (index s v)) None

-- v lies in bucket i: above the bound before, and at most its own
abbrev pub in_bucket : ℤ → ℤ → Float → Bool
in_bucket s i v = lt (bound s (i -ℤ pos 1)) (magnitude v) && le (magnitude v) (bound s i)

-- i is the one index whose bucket v lies in
pub record OnlyBucket (s : ℤ) (v : Float) (i : ℤ) : Type 0 where
  pub here : T (in_bucket s i v)
  pub only : (j : ℤ) → T (in_bucket s j v) → j ≡ i

-- ---- the range of indices

-- the index of 2^-1074
abbrev pub lowest_index : ℤ → ℤ
lowest_index (pos a) = neg_ℤ (pos (1074 * 2 ^ a))
lowest_index (negsuc b) = neg_ℤ (pos (1074 / 2 ^ suc b))

-- the index of infinity
abbrev pub highest_index : ℤ → ℤ
highest_index (pos a) = pos (1024 * 2 ^ a + 1)
highest_index (negsuc b) = pos (1024 / 2 ^ suc b + 1)
