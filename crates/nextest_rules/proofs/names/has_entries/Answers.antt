use Rattle.nextest_rules.proofs.Knowing.{names_any}
use Rattle.nextest_rules.proofs.names.has_entries.Goals as goal

pub returns : goal.returns
returns g c = names_any (λ e. g.K.NameKey.text e.0) c.args.table.now.entries c.is_empty.result c.is_empty.ensures
