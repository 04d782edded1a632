-- What every row keeps to as a store of buckets.
use Rattle.std.specs.Prelude.{Bool, true, false, ◌||◌, T, length, nat_lt}
use Rattle.std.proofs.Common.{sym, subst}
use Rattle.store.specs.Pairs.{Pairs, Means, listed, ranged}
use Rattle.store.specs.Stores.{Roomy}
use Rattle.row.specs.declared.Row.{Row}
use Rattle.row.specs.Rows.{row_pairs, row_room}

-- indices rise, counts are at least 1, and the total is below 2^64
pub row_means : (r : Row) → Means (row_pairs r)
row_means r = record { rises = r.rises; counts = r.counts; bounded = r.bounded }

-- every listed index is in range
pub row_ranged : (r : Row) → T (ranged (row_pairs r))
row_ranged r = r.ranges

left_or : (a b : Bool) → T a → T (a || b)
left_or true b t = tt
left_or false b t = absurd t

-- a listed index has room, and so has each where nothing is listed
pub row_roomy : (r : Row) → Roomy (row_pairs r) (row_room (row_pairs r))
row_roomy r = record {
  for_listed = λ i t. left_or (listed i (row_pairs r)) (nat_lt (length (row_pairs r)) 320) t;
  when_empty = λ e i t. subst (λ (ps : Pairs). T (row_room ps i)) (sym e) tt;
}
