use Rattle.rinqebo_changes.proofs.WholeGroups.{whole_groups}
use Rattle.rinqebo_changes.proofs.laws.law_groups.Goals as goal

pub returns : goal.returns
returns c tests groups are = whole_groups tests groups are
