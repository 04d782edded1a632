use Rattle.span.proofs.Back.{spans_tell}
use Rattle.span.proofs.laws.spans_tell_pairs.Goals as goal

pub returns : goal.returns
returns c = spans_tell
