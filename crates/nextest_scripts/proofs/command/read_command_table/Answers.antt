use Rattle.nextest_scripts.specs.Command.{a_command}
use Rattle.nextest_scripts.specs.CommandLine.{a_command_line}
use Rattle.nextest_scripts.proofs.command.read_command_table.Goals as goal

pub returns-clause-reads : goal.returns-clause-reads
unfolding a_command
returns-clause-reads c = c.read_closed_record.ensures.reads a_command_line
