use Rattle.std.proofs.Common.{rules}
use Rattle.nextest_tables.proofs.override_table.OverrideTableRecord.read_fields.Goals as goal

pub returns-clause-value : goal.returns-clause-value
returns-clause-value c = search rules
