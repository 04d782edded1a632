-- What a reader yields, and what opening one answers.
use Rattle.std.specs.Prelude.{◌≡◌, ℕ, List, [], ◌∷◌, ℤ, pos, ◌+ℤ◌, Some, None, Ok, Err, Option, Result, MatchOption}
use Rattle.store.specs.Pairs.{Pairs}
use Rattle.span.specs.declared.faults.SpanFault.{SpanFault}
use Rattle.span.specs.declared.reader.BucketReader.{BucketReader}
use Rattle.span.specs.Faults.{span_fault}
use Rattle.span.specs.Spans.{Spans}
use Rattle.span.specs.Reading.{Sound, unread, nonzero, read_pairs, span_refusal, open_refusal}

-- the buckets still to come, and the pairs among them
abbrev pub reader_buckets : BucketReader → Pairs
reader_buckets r = unread r.index r.left r.spans.now r.count r.deltas.now

abbrev pub reader_pairs : BucketReader → Pairs
reader_pairs r = nonzero (reader_buckets r)

-- what holds of a reader that was opened, and goes on to hold
abbrev pub ReaderSound : BucketReader → Type 0
ReaderSound r = Sound r.index r.left r.spans.now r.count r.deltas.now

-- a call at s gives the first of what s has still to come and leaves t with the others, or nothing is to come
abbrev pub Gives : (BucketReader → Pairs) → BucketReader → Option (ℤ × ℕ) → BucketReader → Type 0
Gives coming s r t = MatchOption r ((coming s ≡ []) × (coming t ≡ [])) (λ p. coming s ≡ p ∷ coming t)

-- why a check fails, if it does
abbrev pub fault_of : {X : Type 0} → Result X SpanFault → Option (ℕ × ℤ)
fault_of (Ok x) = None
fault_of (Err f) = Some (span_fault f)

-- what the check of the span s with the number k answers: the index after it
pub record Passes (k : ℕ) (next : ℤ) (s : ℤ × ℕ) (after : ℤ) : Type 0 where
  pub allowed : span_refusal k next s ≡ None
  pub follows : after ≡ next +ℤ s.0 +ℤ pos s.1

abbrev pub Checked : ℕ → ℤ → ℤ × ℕ → Result ℤ SpanFault → Type 0
Checked k next s (Ok after) = Passes k next s after
Checked k next s (Err f) = span_refusal k next s ≡ Some (span_fault f)

-- what opening answers: a reader of all pairs exactly if nothing is refused, else the first refusal
pub record Opens (ss : Spans) (ds : List ℤ) (r : BucketReader) : Type 0 where
  pub allowed : open_refusal ss ds ≡ None
  pub sound : ReaderSound r
  pub yields : reader_pairs r ≡ read_pairs ss ds

abbrev pub Opened : Spans → List ℤ → Result BucketReader SpanFault → Type 0
Opened ss ds (Ok r) = Opens ss ds r
Opened ss ds (Err f) = open_refusal ss ds ≡ Some (span_fault f)
