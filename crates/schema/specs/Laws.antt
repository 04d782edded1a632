-- What is true of bounds and indices at every schema.
use Rattle.std.specs.Prelude.{◌≡◌, false, T, ℤ, pos, ◌+ℤ◌, ◌-ℤ◌, ◌≤ℤ◌, Float}
use Rattle.std.specs.Float.{inf}
use Rattle.index.specs.Index.{halved, in_index_range}
use Rattle.double.specs.Double.{Number}
use Rattle.schema.specs.Bounds.{bound, index, nonzero, lowest_index, highest_index, min_double}

-- the indices of a schema: between those of 2^-1074 and of infinity, and in the range of all schemas
pub record Ranged (s i : ℤ) : Type 0 where
  pub low : lowest_index s ≤ℤ i
  pub high : i ≤ℤ highest_index s
  pub inside : T (in_index_range i)

-- t is one schema coarser than s: it has every other bound of s, and half of each index, rounded up
pub record Coarser (s t : ℤ) : Type 0 where
  pub next : t ≡ s -ℤ pos 1
  pub bounds : (i : ℤ) → bound t i ≡ bound s (i +ℤ i)
  pub indices : (v : Float) → Number v → T (nonzero v) → index t v ≡ halved (index s v)

-- the ends are reached
pub record EndsReached (s : ℤ) : Type 0 where
  pub lowest : index s min_double ≡ lowest_index s
  pub highest : index s (inf false) ≡ highest_index s
