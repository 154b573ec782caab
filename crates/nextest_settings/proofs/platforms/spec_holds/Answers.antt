use Rattle.std.proofs.Common.{rules}
use Rattle.nextest_settings.proofs.platforms.spec_holds.Goals as goal

pub returns-in-Some : goal.returns-in-Some
returns-in-Some g c = search rules
