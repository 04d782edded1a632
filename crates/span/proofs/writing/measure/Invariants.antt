use Rattle.span.proofs.Seen.{Seen}
use Rattle.span.proofs.writing.measure.Given as goal

abbrev pub invariant-loop-index : goal.invariant-loop-index
invariant-loop-index g l =
    Seen (g.S.BucketStore.pairs l.store) l.yielded l.index-iterator l.end l.lengths
