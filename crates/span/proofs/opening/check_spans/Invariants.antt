use Rattle.std.proofs.Common.{◌≡◌, drop, pos, negsuc, ◌≤ℤ◌}
use Rattle.span.specs.Reading.{spans_refusal}
use Rattle.span.proofs.opening.check_spans.Given as goal

abbrev pub invariant-loop-number : goal.invariant-loop-number
invariant-loop-number l =
    (spans_refusal l.number l.next (drop l.number l.spans) ≡ spans_refusal 0 (pos 0) l.spans)
    × (negsuc 274943 ≤ℤ l.next)
    × (l.next ≤ℤ pos 262146)
