-- What a fault says.
use Rattle.std.specs.Prelude.{ℕ, List, ◌++◌, ℤ, pos, Some, None, codes, decimal, Option}
use Rattle.std.specs.Fmt.{signed_decimal}
use Rattle.span.specs.declared.faults.WriteFault.{WriteFault}
use Rattle.span.specs.declared.faults.WriteFault.TheVariants.{LargeCount, FewSpans, FewDeltas}
use Rattle.span.specs.declared.faults.SpanFault.{SpanFault}
use Rattle.span.specs.declared.faults.SpanFault.TheVariants.{LengthSum, EmptySpan, BackwardSpan, OutOfRange, CountRange}

-- a refusal, number and place, or else another
abbrev pub either : Option (ℕ × ℤ) → Option (ℕ × ℤ) → Option (ℕ × ℤ)
either (Some f) other = Some f
either None other = other

-- number and place: 10 the index whose count is above 2^63 − 1; 9 the buffer that is too short, 1 for spans and 2 for deltas
abbrev pub write_fault : WriteFault → ℕ × ℤ
write_fault (LargeCount i) = (10, i)
write_fault FewSpans = (9, pos 1)
write_fault FewDeltas = (9, pos 2)

-- number and place: 11 the number of deltas, which is not the sum of the lengths; 12 a span of length 0, 13 a span that goes back, 14 a span that leaves the range, each by its number; 15 a delta after which the count is out of range
abbrev pub span_fault : SpanFault → ℕ × ℤ
span_fault (LengthSum n) = (11, n)
span_fault (EmptySpan k) = (12, k)
span_fault (BackwardSpan k) = (13, k)
span_fault (OutOfRange k) = (14, k)
span_fault (CountRange k) = (15, k)

-- what is wrong, in words
abbrev pub write_reason : WriteFault → List ℕ
write_reason (LargeCount i) = codes ": index " ++ (signed_decimal i ++ codes " has a count above 2^63 - 1")
write_reason FewSpans = codes ": the buffer for spans is too short"
write_reason FewDeltas = codes ": the buffer for deltas is too short"

abbrev pub span_reason : SpanFault → List ℕ
span_reason (LengthSum n) = codes ": the span lengths do not sum to the number of deltas, " ++ signed_decimal n
span_reason (EmptySpan k) = codes ": span " ++ (signed_decimal k ++ codes " has length 0")
span_reason (BackwardSpan k) = codes ": span " ++ (signed_decimal k ++ codes " has a negative offset")
span_reason (OutOfRange k) = codes ": span " ++ (signed_decimal k ++ codes " reaches an index out of range")
span_reason (CountRange k) = codes ": delta " ++ (signed_decimal k ++ codes " takes the count below 0 or above 2^63 - 1")

-- the texts that are shown
abbrev pub write_message : WriteFault → List ℕ
write_message f = codes "refusal " ++ (decimal (write_fault f).0 ++ write_reason f)

abbrev pub span_message : SpanFault → List ℕ
span_message f = codes "refusal " ++ (decimal (span_fault f).0 ++ span_reason f)
