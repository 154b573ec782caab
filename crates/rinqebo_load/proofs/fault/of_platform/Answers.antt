use Rattle.rinqebo_load.proofs.Causes.{of_platform}
use Rattle.rinqebo_load.proofs.fault.of_platform.Goals as goal

pub returns-in_default : goal.returns-in_default
returns-in_default c = of_platform c.args.subject c.args.triple c.args.fault c.in_default.not-Memory
