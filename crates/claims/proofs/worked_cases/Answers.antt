use Rattle.std.proofs.Common.{refl}
use lib.Ieee.{size, lt, of_bits}
use Rattle.schema.specs.Tables.{tables}
use Rattle.claims.specs.Cases.{Indices}
use Rattle.claims.proofs.worked_cases.Goals as goal

indices : Indices
unfolding tables size lt of_bits
indices = record {
  one = refl;
  after_one = refl;
  wide = refl;
  after_wide = refl;
  wide_below = refl;
  wide_lowest = refl;
  fine_highest = refl;
  fine_infinity = refl;
  fine_lowest = refl;
}

pub returns-clause-indices : goal.returns-clause-indices
returns-clause-indices c = indices
