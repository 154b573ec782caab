use Rattle.std.proofs.Common.{rules}
use Rattle.nextest_tables.proofs.platform_strings.PlatformStringsElement.read.Goals as goal

pub returns-in_ok-read-in-Text-clause-value : goal.returns-in_ok-read-in-Text-clause-value
returns-in_ok-read-in-Text-clause-value c = search rules
