-- For which indices a row has room, and what that says about adding one.
use Rattle.std.proofs.Common.{◌≡◌, ◌-◌, ◌^◌, ◌<◌, ◌≤◌, true, false, length, ℤ, is_ok, Some, None, arith}
use Rattle.std.proofs.lemmas.Bool.Decides.{nat_tests}
use Rattle.index.specs.Index.{in_index_range}
use Rattle.store.specs.Pairs.{Pairs, total, listed}
use Rattle.store.specs.Stores.{Room, add_refusal}
use Rattle.row.specs.Rows.{row_room, sought}

-- there is room for a listed index
pub room_listed : (i : ℤ) (ps : Pairs) → listed i ps ≡ true → row_room ps i ≡ true
room_listed i ps e = grind arith

-- and for each while fewer than 320 are listed
pub room_below : (i : ℤ) (ps : Pairs) → length ps < 320 → row_room ps i ≡ true
room_below i ps h = grind (arith, nat_tests)

-- a full row has none for an index that is not listed
pub room_none : (i : ℤ) (ps : Pairs) → listed i ps ≡ false → 320 ≤ length ps → row_room ps i ≡ false
room_none i ps e h = grind (arith, nat_tests)

-- a full row has room where a search finds the index
pub room_full : (i : ℤ) (ps : Pairs) → 320 ≤ length ps → is_ok (sought i ps) ≡ row_room ps i
room_full i ps h = grind (arith, nat_tests)

-- with the index in range and the total below its limit, room decides
module _ (ps : Pairs) (room : Room) (i : ℤ) (range : in_index_range i ≡ true) (below : total ps < 2 ^ 64 - 1) where
  -- with room, nothing refuses the index
  pub allowed : room i ≡ true → add_refusal ps room i ≡ None
  allowed e = grind (arith, nat_tests)

  -- without, that is the refusal
  pub no_room : room i ≡ false → add_refusal ps room i ≡ Some (7, i)
  no_room e = grind (arith, nat_tests)
