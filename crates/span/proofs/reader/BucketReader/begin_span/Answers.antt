use Rattle.std.proofs.Common.{◌∙◌, w32, SFits, rules}
use Rattle.span.proofs.Unread.{begun, begun_buckets}
use Rattle.span.proofs.reader.BucketReader.begin_span.Goals as goal

pub invariant_of-self : goal.invariant_of-self
invariant_of-self c =
    let f : SFits w32 c.in-Some.span.now.0 = search rules in
    record { sound = begun c.loop-self.self c.in-Some.span.now c.in-Some.spans.now c.loop-self-test.true c.in-Some.ensures.cases.0 f }

pub loop-self-preserved : goal.loop-self-preserved
loop-self-preserved c =
    let f : SFits w32 c.in-Some.span.now.0 = search rules in
    (begun_buckets c.loop-self.self c.in-Some.span.now c.in-Some.spans.now c.loop-self-test.true c.in-Some.ensures.cases.0 f ∙ c.loop-self.invariant.0, c.loop-self.invariant.1)
