use Rattle.std.proofs.Common.{map}
use Rattle.nextest_documents.proofs.Shown.{has_shown}
use Rattle.nextest_tables.specs.Defaults.{defaults}
use Rattle.nextest_load.specs.Trees.{tree_in}
use Rattle.nextest_load.proofs.laws.law_shown.Goals as goal

pub returns : goal.returns
returns c ss = has_shown defaults (map tree_in ss)
