use Rattle.std.proofs.Common.{◌≡◌, length}
use Rattle.span.specs.Readers.{reader_buckets}
use Rattle.span.proofs.reader.BucketReader.begin_span.Given as goal

abbrev pub invariant-loop-self : goal.invariant-loop-self
invariant-loop-self l =
    (reader_buckets l.self ≡ reader_buckets l.initial.self)
    × (l.self.deltas ≡ l.initial.self.deltas)

abbrev pub decreases-loop-self : goal.decreases-loop-self
decreases-loop-self l = length l.self.spans.now
