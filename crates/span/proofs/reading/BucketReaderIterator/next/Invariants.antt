use Rattle.std.proofs.Common.{◌≡◌, length}
use Rattle.span.specs.Readers.{reader_buckets, reader_pairs}
use Rattle.span.proofs.reading.BucketReaderIterator.next.Given as goal

abbrev pub invariant-loop-bucket : goal.invariant-loop-bucket
invariant-loop-bucket l = reader_pairs l.self ≡ reader_pairs l.initial.self

abbrev pub decreases-loop-bucket : goal.decreases-loop-bucket
decreases-loop-bucket l = length (reader_buckets l.self)
