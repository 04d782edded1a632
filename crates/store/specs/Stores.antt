-- What a store is asked: its room, and what adding an index does.
use Rattle.std.specs.Prelude.{◌≡◌, ℕ, ◌-◌, ◌^◌, Bool, cond, T, [], ℤ, pos, Some, None, Ok, Err, Option, Result, nat_lt}
use Rattle.index.specs.Index.{in_index_range}
use Rattle.store.specs.declared.faults.StoreFault.{StoreFault}
use Rattle.store.specs.Faults.{refusal}
use Rattle.store.specs.Pairs.{Pairs, total, listed, raised}

-- for which indices there is room
abbrev pub Room : Type 0
Room = ℤ → Bool

-- the two laws of room
pub record Roomy (ps : Pairs) (room : Room) : Type 0 where
  pub for_listed : (i : ℤ) → T (listed i ps) → T (room i)
  pub when_empty : ps ≡ [] → (i : ℤ) → T (in_index_range i) → T (room i)

-- why i is not added, as number and place: 8 an index out of range, 6 a full total, 7 no room, the first that applies
abbrev pub add_refusal : Pairs → Room → ℤ → Option (ℕ × ℤ)
add_refusal ps room i =
    cond (in_index_range i)
    (cond (nat_lt (total ps) (2 ^ 64 - 1)) (cond (room i) None (Some (7, i))) (Some (6, pos 0)))
    (Some (8, i))

-- i was added: nothing refused it, and its count is up by one
pub record Accepted (ps : Pairs) (room : Room) (i : ℤ) (after : Pairs) : Type 0 where
  pub allowed : add_refusal ps room i ≡ None
  pub raises : after ≡ raised i ps

-- i was turned away with the fault f: the first refusal that applies, and the store is as it was
pub record Refused {S : Type 0} (ps : Pairs) (room : Room) (i : ℤ) (f : StoreFault) (before after : S) : Type 0 where
  pub because : add_refusal ps room i ≡ Some (refusal f)
  pub unchanged : after ≡ before

-- what adding i to the store `before` answers and leaves
abbrev pub Added : {S : Type 0} (pairs : S → Pairs) (room : S → Room) → ℤ → Result Unit StoreFault → S → S → Type 0
Added pairs room i (Ok u) before after = Accepted (pairs before) (room before) i (pairs after)
Added pairs room i (Err f) before after = Refused (pairs before) (room before) i f before after
