use Rattle.run.specs.Windows.{kept_by_run, window_new}
use Rattle.run.proofs.Run.new.Goals as goal

pub invariant_of-result-2 : goal.invariant_of-result-2
invariant_of-result-2 c = kept_by_run window_new
