use Rattle.store.proofs.Taking.{taking}
use Rattle.store.proofs.laws.taking_removes_lowest.Goals as goal

pub returns : goal.returns
returns c = taking
