use Rattle.store.proofs.Halving.{halving}
use Rattle.store.proofs.laws.halving_keeps_counts.Goals as goal

pub returns : goal.returns
returns c = halving
