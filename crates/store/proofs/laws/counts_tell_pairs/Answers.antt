use Rattle.store.proofs.Counts.{counts_tell}
use Rattle.store.proofs.laws.counts_tell_pairs.Goals as goal

pub returns : goal.returns
returns c = counts_tell
