use Rattle.nextest_explain.proofs.Taken.{sets_host_binary}
use Rattle.nextest_explain.proofs.options.Options.set_host_binary.Goals as goal

pub returns-in-Target : goal.returns-in-Target
returns-in-Target c = sets_host_binary c.args.self.now c.in-Target.is
