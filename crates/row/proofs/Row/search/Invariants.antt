use Rattle.std.proofs.Common.{◌≡◌, ◌-◌, ◌<◌, ◌≤◌, true}
use Rattle.store.specs.Pairs.{listed}
use Rattle.row.specs.Rows.{row_pairs, place}
use Rattle.row.proofs.Row.search.Given as goal

-- the place of the index lies from `low` to `high`, and below `high` if the index is listed
abbrev pub invariant-loop-low : goal.invariant-loop-low
invariant-loop-low l =
    (l.low ≤ place l.index (row_pairs l.self))
    × (place l.index (row_pairs l.self) ≤ l.high)
    × (l.high ≤ l.self.size)
    × (listed l.index (row_pairs l.self) ≡ true → place l.index (row_pairs l.self) < l.high)

abbrev pub decreases-loop-low : goal.decreases-loop-low
decreases-loop-low l = l.high - l.low
