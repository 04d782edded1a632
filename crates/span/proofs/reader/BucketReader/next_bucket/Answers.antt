use Rattle.std.proofs.Common.{sym, ap, ◌∙◌, w64, SFits, rules}
use Rattle.span.proofs.Unread.{nothing_left, has_read, read_buckets}
use Rattle.span.proofs.reader.BucketReader.next_bucket.Goals as goal

pub returns-in_err-delta : goal.returns-in_err-delta
returns-in_err-delta c = let e = nothing_left c.args.self.now c.in_err-delta.ensures.cases in rw c.from_residual.ensures (e, e)

pub invariant_of-self : goal.invariant_of-self
invariant_of-self c =
    let f : SFits w64 c.in_ok-delta.delta.now = search rules in
    let g : SFits w64 c.begin_span.new.self.count = search rules in
    let next = ap (λ ds. ds.now) c.begin_span.ensures.deltas ∙ c.in_ok-delta.ensures.cases.0 in
    record { sound = has_read c.begin_span.new.self c.in_ok-delta.delta.now c.in_ok-delta.deltas.now c.begin_span.ensures.some next f g }

pub returns : goal.returns
returns c =
    let f : SFits w64 c.in_ok-delta.delta.now = search rules in
    let g : SFits w64 c.begin_span.new.self.count = search rules in
    let next = ap (λ ds. ds.now) c.begin_span.ensures.deltas ∙ c.in_ok-delta.ensures.cases.0 in
    rw c.unsigned_abs.ensures.value (sym c.begin_span.ensures.same ∙ read_buckets c.begin_span.new.self c.in_ok-delta.delta.now c.in_ok-delta.deltas.now c.begin_span.ensures.some next f g)
