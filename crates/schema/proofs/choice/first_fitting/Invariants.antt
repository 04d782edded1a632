use Rattle.std.proofs.Common.{◌≡◌, pos, negsuc, ◌≤ℤ◌}
use Rattle.schema.specs.Factor.{schema_for}
use Rattle.schema.proofs.Fitting.{fitting_from}
use Rattle.schema.proofs.choice.first_fitting.Given as goal

abbrev pub invariant-loop-value : goal.invariant-loop-value
invariant-loop-value l = record { low : negsuc 3 ≤ℤ l.value; high : l.value ≤ℤ pos 8; rest : schema_for l.factor ≡ fitting_from l.value l.factor }
