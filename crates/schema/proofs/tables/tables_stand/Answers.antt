use Rattle.schema.proofs.Rules.{lawful, table_rules}
use Rattle.schema.proofs.tables.tables_stand.Goals as goal

pub returns : goal.returns
returns c = record { tested = lawful; rules = table_rules }
