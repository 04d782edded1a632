-- Half of an index, rounded up, is what it should be.
use native.Mathlib.Omega.{arith}
use borrow.Author.Differences.{ints}
use lib.IntN.{ℤ}
use Rattle.index.specs.Index.{halved, Halves}

pub halves : (i : ℤ) → Halves i (halved i)
halves i = grind (arith, ints)
