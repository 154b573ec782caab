use Rattle.std.proofs.Common.{rules}
use Rattle.nextest_scripts.proofs.command.ScriptCommand.program.Goals as goal

pub returns-in-Target : goal.returns-in-Target
returns-in-Target c = search rules
