use Rattle.std.proofs.Common.{rules}
use Rattle.nextest_tables.proofs.Completing.{read_complete}
use Rattle.nextest_tables.proofs.FileViews.{file_is}
use Rattle.nextest_tables.proofs.ScriptViews.{scripts_are}
use Rattle.nextest_tables.proofs.file_table.read_file.Goals as goal

pub returns-clause-value : goal.returns-clause-value
returns-clause-value c = search (rules, file_is)

pub returns-clause-scripts : goal.returns-clause-scripts
returns-clause-scripts c = search (rules, scripts_are)

pub returns-clause-complete : goal.returns-clause-complete
returns-clause-complete c = λ files merged. read_complete c.read.result _ files c.read.ensures.value merged
