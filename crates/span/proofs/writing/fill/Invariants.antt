use Rattle.span.proofs.Seen.{Seen}
use Rattle.span.proofs.Laying.{Laying}
use Rattle.span.proofs.writing.fill.Given as goal

abbrev pub invariant-loop-index : goal.invariant-loop-index
invariant-loop-index g l =
    Seen (g.S.BucketStore.pairs l.store) l.yielded l.index-iterator l.end l.written
    × Laying l.yielded l.initial.spans l.initial.deltas l.spans l.deltas l.previous
