use Rattle.std.proofs.Common.{sym}
use Rattle.span.proofs.Checks.{sound_start}
use Rattle.span.proofs.reader.NativeHistogramBuckets.read.Goals as goal

pub invariant_of-result : goal.invariant_of-result
invariant_of-result c =
    record { sound = sound_start _ _ (sym c.in_ok-check_lengths.ensures) (sym c.in_ok-check_spans.ensures) (sym c.in_ok-check_counts.ensures) }
