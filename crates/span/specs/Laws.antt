-- What is true of written spans and deltas, whatever store holds the pairs.
use Rattle.std.specs.Prelude.{◌≡◌, T, List, [], ◌∷◌, ℤ, pos, negsuc, None}
use Rattle.store.specs.Pairs.{Pairs, rising, counted, ranged}
use Rattle.span.specs.Spans.{Spans, spans, deltas}
use Rattle.span.specs.Writing.{measure_refusal}
use Rattle.span.specs.Reading.{read_pairs, open_refusal}

-- pairs that can be written: indices rise and are in range, counts are from 1 to 2^63 − 1
pub record Writable (ps : Pairs) : Type 0 where
  pub rises : T (rising ps)
  pub counts : T (counted ps)
  pub ranges : T (ranged ps)
  pub small : measure_refusal ps ≡ None

-- what is written of them is accepted, and read back
pub record ReadsBack (ps : Pairs) : Type 0 where
  pub accepted : open_refusal (spans ps) (deltas ps) ≡ None
  pub pairs : read_pairs (spans ps) (deltas ps) ≡ ps

abbrev pub ReadingBack : Type 0
ReadingBack = (ps : Pairs) → Writable ps → ReadsBack ps

-- the spans and deltas tell the pairs
abbrev pub SpansTell : Type 0
SpansTell = (ps qs : Pairs) → Writable ps → Writable qs → spans ps ≡ spans qs → deltas ps ≡ deltas qs → ps ≡ qs

-- the case (0, 1), (1, 2), (4, 1), (8, 3): a gap of 2 is filled, one of 3 is not
abbrev pub worked_pairs : Pairs
worked_pairs = (pos 0, 1) ∷ (pos 1, 2) ∷ (pos 4, 1) ∷ (pos 8, 3) ∷ []

abbrev pub worked_spans : Spans
worked_spans = (pos 0, 5) ∷ (pos 3, 1) ∷ []

abbrev pub worked_deltas : List ℤ
worked_deltas = pos 1 ∷ pos 1 ∷ negsuc 1 ∷ pos 0 ∷ pos 1 ∷ pos 2 ∷ []

pub record Worked : Type 0 where
  pub of_spans : spans worked_pairs ≡ worked_spans
  pub of_deltas : deltas worked_pairs ≡ worked_deltas
  pub back : read_pairs worked_spans worked_deltas ≡ worked_pairs
