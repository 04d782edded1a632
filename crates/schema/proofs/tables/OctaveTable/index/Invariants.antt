use Rattle.std.proofs.Common.{◌≡◌, ℕ, ◌-◌, ◌<◌, ◌≤◌, length, get_or, true, false}
use lib.Ieee.{lt, nan}
use Rattle.schema.proofs.tables.OctaveTable.index.Given as goal

-- the entries before `low` are below the fraction, those from `high` on are not
abbrev pub invariant-loop-low : goal.invariant-loop-low
invariant-loop-low l =
    record {
      ordered : l.low ≤ l.high;
      inside : l.high ≤ length l.bounds;
      before : (k : ℕ) → k < l.low → lt (get_or l.bounds k nan) l.fraction ≡ true;
      after : (k : ℕ) → l.high ≤ k → k < length l.bounds → lt (get_or l.bounds k nan) l.fraction ≡ false;
    }

abbrev pub decreases-loop-low : goal.decreases-loop-low
decreases-loop-low l = l.high - l.low
