-- Why a schema is not made: the number of the refusal, and its place.
use Rattle.std.specs.Prelude.{ℕ, ℤ, pos}
use Rattle.schema.specs.declared.faults.SchemaFault.{SchemaFault}
use Rattle.schema.specs.declared.faults.SchemaFault.TheVariants.{OutOfRange, BadFactor}

abbrev pub refusal : SchemaFault → ℕ × ℤ
refusal OutOfRange = (1, pos 0)
refusal BadFactor = (2, pos 0)
