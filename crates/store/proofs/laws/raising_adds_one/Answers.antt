use Rattle.store.proofs.Raising.{raising}
use Rattle.store.proofs.laws.raising_adds_one.Goals as goal

pub returns : goal.returns
returns c = raising
