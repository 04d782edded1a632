-- What writing a store out answers, and what reading back answers.
use Rattle.std.specs.Prelude.{◌≡◌, ℕ, ℤ, Some, None, Ok, Err, vec_items, Result, Vec}
use Rattle.std.specs.declared.alloc.Global.{Global}
use Rattle.store.specs.Pairs.{Pairs}
use Rattle.span.specs.Faults.{write_fault, span_fault}
use Rattle.span.specs.Spans.{spans, deltas}
use Rattle.span.specs.Writing.{measure_refusal}
use Rattle.span.specs.Reading.{read_pairs, open_refusal}
use Rattle.span.specs.declared.faults.SpanFault.{SpanFault}
use Rattle.span.specs.declared.faults.WriteFault.{WriteFault}
use Rattle.hub.specs.declared.written.FormError.{FormError}
use Rattle.hub.specs.declared.written.FormError.TheVariants.{Refused, NoMemory}
use Rattle.hub.specs.declared.written.Written.{Written}

-- w holds the spans and deltas of the pairs
pub record Holds (ps : Pairs) (w : Written) : Type 0 where
  pub allowed : measure_refusal ps ≡ None
  pub of_spans : vec_items w.spans ≡ spans ps
  pub of_deltas : vec_items w.deltas ≡ deltas ps

-- of a failure for want of memory nothing is said
abbrev pub WritesOut : Pairs → Result Written (FormError WriteFault) → Type 0
WritesOut ps (Ok w) = Holds ps w
WritesOut ps (Err (Refused f)) = measure_refusal ps ≡ Some (write_fault f)
WritesOut ps (Err (NoMemory e)) = Unit {0}

-- v holds the pairs that the spans and deltas of w list
pub record GivesBack (w : Written) (v : Vec (ℤ × ℕ) Global) : Type 0 where
  pub allowed : open_refusal (vec_items w.spans) (vec_items w.deltas) ≡ None
  pub of_pairs : vec_items v ≡ read_pairs (vec_items w.spans) (vec_items w.deltas)

abbrev pub ReadsBack : Written → Result (Vec (ℤ × ℕ) Global) (FormError SpanFault) → Type 0
ReadsBack w (Ok v) = GivesBack w v
ReadsBack w (Err (Refused f)) = open_refusal (vec_items w.spans) (vec_items w.deltas) ≡ Some (span_fault f)
ReadsBack w (Err (NoMemory e)) = Unit {0}
