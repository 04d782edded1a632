-- For a loop over a reader: it gives all pairs that it has still to give, and then nothing.
use Rattle.std.proofs.Common.{length, ap}
use Rattle.std.proofs.lemmas.Iterator.{YieldsList}
use Rattle.std.proofs.lemmas.Iterator.Consumers.{YieldsList-from_shown}
use Rattle.span.specs.declared.reader.BucketReader.{BucketReader}
use Rattle.span.specs.Readers.{reader_pairs, Gives}

pub reader_road : (r : BucketReader) → YieldsList (Gives reader_pairs) (λ p. p) r (reader_pairs r)
reader_road r = YieldsList-from_shown (Gives reader_pairs) (λ p. p) reader_pairs (λ s t h. ap length h.0) (λ s p t h. h) r
