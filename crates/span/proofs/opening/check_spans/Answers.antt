use Rattle.std.proofs.Common.{pos, ◌∙◌}
use Rattle.span.proofs.Checks.{span_passed, passed_low, passed_high}
use Rattle.span.proofs.opening.check_spans.Goals as goal

pub loop-number-preserved : goal.loop-number-preserved
loop-number-preserved c =
    let ss = c.args.spans.now in
    let n = c.loop-number.number in
    let low = c.loop-number.invariant.1 in
    let within = c.loop-number-test.true in
    let p = c.in_ok-next.ensures in (
      span_passed low ss n (pos 0, 0) within _ p ∙ c.loop-number.invariant.0,
      passed_low low ss n (pos 0, 0) within _ p,
      passed_high low ss n (pos 0, 0) within _ p,
    )
