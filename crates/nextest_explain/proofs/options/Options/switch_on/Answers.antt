use Rattle.std.proofs.Common.{refl}
use Rattle.nextest_explain.proofs.Taken.{switches_on}
use Rattle.nextest_explain.proofs.options.Options.switch_on.Goals as goal

pub returns : goal.returns
returns c =
    switches_on _ refl refl c.args.self.now _ c.insert.new.self c.args.feature refl c.in_ok-insert.ensures.keys
