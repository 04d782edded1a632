-- What measuring and writing answer.
use Rattle.std.specs.Prelude.{◌≡◌, ℕ, ◌^◌, cond, List, [], ◌∷◌, ◌++◌, length, drop, ℤ, pos, Some, None, Ok, Err, Option, Result, nat_lt}
use Rattle.store.specs.Pairs.{Pairs}
use Rattle.span.specs.declared.writing.Lengths.{Lengths}
use Rattle.span.specs.declared.faults.WriteFault.{WriteFault}
use Rattle.span.specs.Faults.{write_fault, either}
use Rattle.span.specs.Spans.{Spans, spans, deltas}

-- why pairs have no deltas: 10 with the first index whose count is above 2^63 − 1
abbrev pub measure_refusal : Pairs → Option (ℕ × ℤ)
measure_refusal [] = None
measure_refusal (p ∷ ps) = cond (nat_lt p.1 (2 ^ 63)) (measure_refusal ps) (Some (10, p.0))

-- why pairs are not written to buffers with places for s spans and d deltas: 10, then 9 with the first buffer that is too short
abbrev pub write_refusal : Pairs → ℕ → ℕ → Option (ℕ × ℤ)
write_refusal ps s d =
    either (measure_refusal ps)
    (cond (nat_lt s (length (spans ps))) (Some (9, pos 1)) (cond (nat_lt d (length (deltas ps))) (Some (9, pos 2)) None))

-- the lengths of what is written
pub record Counted (ps : Pairs) (n : Lengths) : Type 0 where
  pub of_spans : n.spans ≡ length (spans ps)
  pub of_deltas : n.deltas ≡ length (deltas ps)

-- what measuring answers
pub record Measures (ps : Pairs) (n : Lengths) : Type 0 where
  pub allowed : measure_refusal ps ≡ None
  pub lengths : Counted ps n

abbrev pub Measured : Pairs → Result Lengths WriteFault → Type 0
Measured ps (Ok n) = Measures ps n
Measured ps (Err f) = measure_refusal ps ≡ Some (write_fault f)

-- written at the start of a buffer, whose other places stay
abbrev pub laid : {X : Type 0} → List X → List X → List X
laid xs buffer = xs ++ drop (length xs) buffer

-- the spans and deltas of pairs at the start of both buffers
pub record Laid (ps : Pairs) (ss : Spans) (ds : List ℤ) (ss' : Spans) (ds' : List ℤ) : Type 0 where
  pub of_spans : ss' ≡ laid (spans ps) ss
  pub of_deltas : ds' ≡ laid (deltas ps) ds

-- pairs were written
pub record Writes (ps : Pairs) (ss : Spans) (ds : List ℤ) (n : Lengths) (ss' : Spans) (ds' : List ℤ) : Type 0 where
  pub allowed : write_refusal ps (length ss) (length ds) ≡ None
  pub lengths : Counted ps n
  pub buffers : Laid ps ss ds ss' ds'

-- nothing was written: both buffers are as they were
pub record Refused (ps : Pairs) (ss : Spans) (ds : List ℤ) (f : WriteFault) (ss' : Spans) (ds' : List ℤ) : Type 0 where
  pub because : write_refusal ps (length ss) (length ds) ≡ Some (write_fault f)
  pub of_spans : ss' ≡ ss
  pub of_deltas : ds' ≡ ds

abbrev pub Written : Pairs → Result Lengths WriteFault → Spans → List ℤ → Spans → List ℤ → Type 0
Written ps (Ok n) ss ds ss' ds' = Writes ps ss ds n ss' ds'
Written ps (Err f) ss ds ss' ds' = Refused ps ss ds f ss' ds'
