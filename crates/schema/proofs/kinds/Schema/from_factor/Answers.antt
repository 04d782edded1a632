use Rattle.std.proofs.Common.{sym, subst}
use lib.Ieee.{of_bits}
use Rattle.std.proofs.lemmas.Float.{T_from_true}
use Rattle.schema.specs.Factor.{Smallest}
use Rattle.schema.proofs.Fitting.{schema_smallest}
use Rattle.schema.proofs.kinds.Schema.from_factor.Goals as goal

pub returns-then-factor : goal.returns-then-factor
unfolding of_bits
returns-then-factor c = (T_from_true _ c.if-factor.true, (c.first_fitting.ensures, subst (Smallest c.args.factor) (sym c.first_fitting.ensures) (schema_smallest c.args.factor)))
