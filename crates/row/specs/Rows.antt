-- What a row lists, for which indices it has room, and where an index stands in it.
use Rattle.std.specs.Prelude.{ℕ, suc, Bool, cond, ◌||◌, [], ◌∷◌, length, take, ℤ, Ok, Err, Result, int_lt, nat_lt}
use Rattle.store.specs.Pairs.{Pairs, listed}
use Rattle.row.specs.declared.Row.{Row}

-- the pairs of a row, lowest index first; the places past its size do not count
abbrev pub row_pairs : Row → Pairs
row_pairs r = take r.size r.pairs

-- there is room for a listed index, and for any other while fewer than 320 are listed
abbrev pub row_room : Pairs → ℤ → Bool
row_room ps i = listed i ps || nat_lt (length ps) 320

-- the number of leading pairs with an index below i
abbrev pub place : ℤ → Pairs → ℕ
place i [] = 0
place i (p ∷ ps) = cond (int_lt p.0 i) (suc (place i ps)) 0

-- the position where i stands, or else the position where it would go
abbrev pub sought : ℤ → Pairs → Result ℕ ℕ
sought i ps = cond (listed i ps) (Ok (place i ps)) (Err (place i ps))
