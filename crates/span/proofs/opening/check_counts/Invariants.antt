use Rattle.std.proofs.Common.{◌≡◌, ◌-◌, ◌^◌, drop, pos, ◌≤ℤ◌}
use Rattle.span.specs.Reading.{counts_refusal}
use Rattle.span.proofs.opening.check_counts.Given as goal

abbrev pub invariant-loop-number : goal.invariant-loop-number
invariant-loop-number l =
    (counts_refusal l.number l.count (drop l.number l.deltas) ≡ counts_refusal 0 (pos 0) l.deltas)
    × (pos 0 ≤ℤ l.count)
    × (l.count ≤ℤ pos (2 ^ 63 - 1))
