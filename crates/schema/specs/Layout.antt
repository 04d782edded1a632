-- Which schema a layout is of.
use Rattle.std.specs.Prelude.{ℤ, pos, neg_ℤ}
use Rattle.schema.specs.declared.layout.Layout.{Layout}
use Rattle.schema.specs.declared.layout.Layout.TheVariants.{Table, Powers}

abbrev pub schema_of : Layout → ℤ
schema_of (Table t) = pos t.schema
schema_of (Powers w) = neg_ℤ (pos w.doublings)
